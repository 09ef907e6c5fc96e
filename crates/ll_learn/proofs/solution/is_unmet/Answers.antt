use Rattle.std.proofs.Common.{◌≡◌, ◌<◌, true, ap, sym, ◌∙◌, subst, arith, get_or, inl, inr}
use Rattle.std.proofs.lemmas.Bool.{both_ways, cases_lt}
use Rattle.ll_rights.specs.Right.{all_rights}
use Rattle.ll_learn.specs.Draft.{is_granted, is_restricted, may_have}
use Rattle.ll_learn.proofs.Solutions.{right_is}
use Rattle.ll_learn.proofs.solution.is_unmet.Goals.{else-is_restricted-via-then-is_restricted+else-not-can_grant}
use Rattle.ll_learn.proofs.solution.is_unmet.Goals.{else-is_restricted-via-else-is_restricted}
use Rattle.ll_learn.proofs.solution.is_unmet.Goals as goal

pub returns-then-not-can_grant-clause-unmet : goal.returns-then-not-can_grant-clause-unmet
returns-then-not-can_grant-clause-unmet c on =
    let k = c.loop-right.right-index in
    let r = get_or all_rights k c.right-item.result in
    let lt : k < 15 = c.loop-right-test.true in (
      r,
      subst (λ n. n < 15) (sym (right_is k c.right-item.result lt)) lt,
      sym c.if-is_restricted.ensures,
      sym c.if-not-can_grant.ensures,
    )

pub loop-right-preserved : goal.loop-right-preserved
loop-right-preserved c right lt so =
    let k = c.loop-right.right-index in
    let r = get_or all_rights k c.right-item.result in
    let test : k < 15 = c.loop-right-test.true in
    elim (cases_lt right k) [
      | inl below ↦ c.loop-right.invariant right below so
      | inr above ↦
          let is = right_is k c.right-item.result test in
          let here : right ≡ k = omega arith in
          let same : right ≡ r = here ∙ sym is in
          elim c.else-is_restricted.branch [
            | else-is_restricted-via-then-is_restricted+else-not-can_grant w ↦
                subst (λ n. is_granted (may_have c.args.scope.now n) n c.args.asked.now ≡ true) (sym same)
                (sym w.if-not-can_grant.ensures)
            | else-is_restricted-via-else-is_restricted w ↦ absurd (both_ways (is_restricted c.args.scope.now right)
                (ap (is_restricted c.args.scope.now) same ∙ sym w.if-is_restricted.ensures) so)
          ]
    ]
