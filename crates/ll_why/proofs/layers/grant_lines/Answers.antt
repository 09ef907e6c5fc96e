use Rattle.std.proofs.Common.{◌≡◌, ◌∷◌, [], List, ℕ, codes, ap, ◌∙◌}
use Rattle.std.specs.List.{concat, enumerate_from, flat_map}
use Rattle.std.proofs.lemmas.Result.{IfOk-weaker}
use Rattle.ll_why.specs.declared.grants.Ruled.{Ruled}
use Rattle.ll_why.specs.Told.{path_on, rights_line, rule_line}
use Rattle.ll_why.proofs.TextGrowth.{three}
use Rattle.ll_why.proofs.layers.grant_lines.Goals as goal

pub returns : goal.returns
returns c =
    let start = c.args.start.now in
    let g = c.args.grants.now in
    let line = rule_line start (path_on c.args.call.now c.args.on) in
    let free : c.as_str-3.result.now ≡ rights_line (concat (start ∷ codes ", not restricted" ∷ [])) g.free.0 =
    c.as_str-3.ensures.value ∙ c.in_ok-free.ensures
    ∙ ap (λ (w : List ℕ). rights_line w g.free.0) (c.as_str.ensures.value ∙ c.in_ok-unrestricted.ensures) in
    let ruled : c.as_str-4.result.now ≡ flat_map line (enumerate_from 0 g.ruled.items) =
    c.as_str-4.ensures.value ∙ c.in_ok-ruled.ensures
    ∙ ap (λ (l : List Ruled). flat_map line (enumerate_from 0 l)) c.as_slice.ensures.value in
    let missing : c.as_str-5.result.now ≡ rights_line (concat (start ∷ codes ", by no rule" ∷ [])) g.missing.0 =
    c.as_str-5.ensures.value ∙ c.in_ok-missing.ensures
    ∙ ap (λ (w : List ℕ). rights_line w g.missing.0) (c.as_str-2.ensures.value ∙ c.in_ok-unruled.ensures) in
    IfOk-weaker c.concat-3.result _ _ (λ text e. e ∙ three free ruled missing) c.concat-3.ensures
