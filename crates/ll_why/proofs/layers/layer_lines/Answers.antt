use Rattle.std.proofs.Common.{◌≡◌, ◌∷◌, [], List, ℕ, codes, ap, ◌∙◌}
use Rattle.std.specs.Prelude.{decimal}
use Rattle.std.specs.List.{concat, flat_map}
use Rattle.std.proofs.lemmas.Result.{IfOk-weaker}
use Rattle.ll_decide.specs.declared.demands.On.TheVariants.{Left, Entered}
use Rattle.ll_why.specs.Told.{each_on, gain_line, on_lines}
use Rattle.ll_why.proofs.TextGrowth.{three}
use Rattle.ll_why.proofs.layers.layer_lines.Goals as goal

pub returns : goal.returns
returns c =
    let call = c.args.call.now in
    let asks = c.args.asks.now in
    let told = c.args.told.now in
    let named : List ℕ = concat (codes "layer " ∷ decimal c.args.number ∷ []) in
    let layer : c.as_str-layer.result.now ≡ named =
    c.as_str-layer.ensures.value ∙ c.in_ok-layer.ensures
    ∙ ap (λ (n : List ℕ). concat (codes "layer " ∷ n ∷ [])) (c.as_str.ensures.value ∙ c.in_ok-number.ensures.ok) in
    let each : c.as_str-2.result.now ≡ flat_map (on_lines call asks named told) each_on =
    c.as_str-2.ensures.value ∙ c.in_ok-each.ensures
    ∙ ap (λ (l : List ℕ). flat_map (on_lines call asks l told) each_on) layer in
    let there : c.as_str-3.result.now ≡ gain_line call asks named Entered told.there.0 =
    c.as_str-3.ensures.value ∙ c.in_ok-there.ensures
    ∙ ap (λ (l : List ℕ). gain_line call asks l Entered told.there.0) layer in
    let back : c.as_str-4.result.now ≡ gain_line call asks named Left told.back.0 =
    c.as_str-4.ensures.value ∙ c.in_ok-back.ensures
    ∙ ap (λ (l : List ℕ). gain_line call asks l Left told.back.0) layer in
    IfOk-weaker c.concat-2.result _ _ (λ text e. e ∙ three each there back) c.concat-2.ensures
