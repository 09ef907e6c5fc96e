use Rattle.std.proofs.Common.{◌≡◌, ◌<◌, ℕ, true, get_or, refl, ap, arith, sym, ◌∙◌, below_more}
use Rattle.std.specs.Prelude.{◌==◌}
use Rattle.std.proofs.lemmas.Bool.{false≢true, eqb-true, agree_below_at}
use Rattle.std.proofs.lemmas.Slice.Eq.{bytes_eq-Decides}
use Rattle.ll_rights.specs.Right.{all_rights, right_text}
use Rattle.ll_rights.proofs.right.Right.parse.Goals as goal

in_order : (k other : ℕ) → k < 15 → get_or all_rights k other ≡ k
in_order k other within = eqb-true _ _
    (agree_below_at (λ k. get_or all_rights k other == k) (λ _. true) 15 k refl within)

pub loop-right-preserved : goal.loop-right-preserved
loop-right-preserved c =
    let name = c.text.ensures ∙ ap right_text
    (in_order c.loop-right.right-index c.right-item.result c.loop-right-test.true) in
    below_more _ _ c.loop-right.invariant
    (λ same. false≢true (c.if-eq.ensures ∙ (bytes_eq-Decides _ _).1 (same ∙ sym name)))

pub returns-clause-none : goal.returns-clause-none
returns-clause-none c = λ right known. c.loop-right.invariant right (omega arith)
