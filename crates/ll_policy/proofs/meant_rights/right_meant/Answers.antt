use Rattle.std.proofs.Common.{◌≡◌, ◌<◌, ◌∙◌, ap, arith, subst}
use Rattle.ll_rights.specs.Right.{right_text}
use Rattle.ll_policy.specs.MeantRights.{edits}
use Rattle.ll_policy.proofs.Nearest.{IsNearest, away, farther, in_order, is_meant, is_strange, nearer}
use Rattle.ll_policy.proofs.meant_rights.right_meant.Goals.{then-edits-least, else-edits-least}
use Rattle.ll_policy.proofs.meant_rights.right_meant.Goals as goal

pub loop-right-preserved : goal.loop-right-preserved
loop-right-preserved c =
    let word = c.args.word.now in
    let k = c.loop-right.right-index in
    let within : k < 15 = c.loop-right-test.true in
    let here = in_order k c.right-item.result within in
    let far : c.in_ok-edits.edits ≡ away word k =
    c.in_ok-edits.ensures.value ∙ ap (edits word) (c.text.ensures ∙ ap right_text here) in
    elim c.if-edits-least.branch [
      | then-edits-least w ↦
          let more = nearer word k c.loop-right.nearest c.loop-right.least c.loop-right.invariant
          (subst (λ n. n < c.loop-right.least) far w.if-edits-least.true) in
          rw (w.nearest-is, w.least-is, here, far) more
      | else-edits-least w ↦
          rw (w.nearest-is, w.least-is) (farther word k c.loop-right.nearest c.loop-right.least
          c.loop-right.invariant (omega (arith, far, w.if-edits-least.false)))
    ]

pub returns-clause-meant : goal.returns-clause-meant
returns-clause-meant c =
    let all = c.loop-right-test.false in
    let whole : c.loop-right.right-index ≡ 15 = omega (arith, all, c.loop-right.auto.right-index-end) in
    is_meant c.args.word.now c.loop-right.nearest c.loop-right.least
    (subst (λ n. IsNearest c.args.word.now n c.loop-right.nearest c.loop-right.least) whole c.loop-right.invariant)

pub returns-clause-none : goal.returns-clause-none
returns-clause-none c =
    let all = c.loop-right-test.false in
    let whole : c.loop-right.right-index ≡ 15 = omega (arith, all, c.loop-right.auto.right-index-end) in
    is_strange c.args.word.now c.loop-right.nearest c.loop-right.least
    (subst (λ n. IsNearest c.args.word.now n c.loop-right.nearest c.loop-right.least) whole c.loop-right.invariant)
