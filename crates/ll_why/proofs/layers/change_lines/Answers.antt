use Rattle.std.proofs.Common.{◌≡◌, ◌∷◌, [], List, ℕ, codes, ap, ◌∙◌}
use Rattle.std.specs.Prelude.{decimal}
use Rattle.std.specs.List.{concat}
use Rattle.std.proofs.lemmas.Result.{IfOk-weaker}
use Rattle.ll_decide.specs.declared.demands.On.TheVariants.{Itself, Other, Left, Entered}
use Rattle.ll_why.specs.Told.{added_line, rights_line}
use Rattle.ll_why.proofs.TextGrowth.{five}
use Rattle.ll_why.proofs.layers.change_lines.Goals as goal

pub returns : goal.returns
returns c =
    let call = c.args.call.now in
    let asks = c.args.asks.now in
    let change = c.args.change.now in
    let named : List ℕ = concat (codes "no layer would deny it with layer " ∷ decimal c.args.number ∷ []) in
    let own = c.in_ok-layer.ensures
    ∙ ap (λ (n : List ℕ). concat (codes "no layer would deny it with layer " ∷ n ∷ []))
    (c.as_str.ensures.value ∙ c.in_ok-number.ensures.ok) in
    let layer : c.as_str-layer.result.now ≡ named = c.as_str-layer.ensures.value ∙ own in
    let handling : c.as_str-3.result.now ≡ concat (named ∷ codes " handling" ∷ []) =
    c.as_str-3.ensures.value ∙ c.in_ok-handling.ensures
    ∙ ap (λ (l : List ℕ). concat (l ∷ codes " handling" ∷ [])) (c.as_str-2.ensures.value ∙ own) in
    let handled : c.as_str-4.result.now ≡ rights_line (concat (named ∷ codes " handling" ∷ [])) change.handled.0 =
    c.as_str-4.ensures.value ∙ c.in_ok-handled.ensures
    ∙ ap (λ (w : List ℕ). rights_line w change.handled.0) handling in
    let itself : c.as_str-5.result.now ≡ added_line call asks named Itself change.itself.rights.0 =
    c.as_str-5.ensures.value ∙ c.in_ok-itself.ensures
    ∙ ap (λ (l : List ℕ). added_line call asks l Itself change.itself.rights.0) layer in
    let other : c.as_str-6.result.now ≡ added_line call asks named Other change.other.rights.0 =
    c.as_str-6.ensures.value ∙ c.in_ok-other.ensures
    ∙ ap (λ (l : List ℕ). added_line call asks l Other change.other.rights.0) layer in
    let left : c.as_str-7.result.now ≡ added_line call asks named Left change.parent.rights.0 =
    c.as_str-7.ensures.value ∙ c.in_ok-left.ensures
    ∙ ap (λ (l : List ℕ). added_line call asks l Left change.parent.rights.0) layer in
    let entered : c.as_str-8.result.now ≡ added_line call asks named Entered change.entered.rights.0 =
    c.as_str-8.ensures.value ∙ c.in_ok-entered.ensures
    ∙ ap (λ (l : List ℕ). added_line call asks l Entered change.entered.rights.0) layer in
    IfOk-weaker c.concat-3.result _ _ (λ text e. e ∙ five handled itself other left entered) c.concat-3.ensures
