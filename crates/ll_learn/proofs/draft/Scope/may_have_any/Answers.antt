use Rattle.std.proofs.Common.{◌≡◌, ◌<◌, ap, sym, ◌∙◌, subst, arith, get_or, inl, inr}
use Rattle.std.proofs.lemmas.Bool.{cases_lt}
use Rattle.ll_rights.specs.Right.{all_rights}
use Rattle.ll_learn.specs.Draft.{may_have}
use Rattle.ll_learn.proofs.Solutions.{right_is}
use Rattle.ll_learn.proofs.draft.Scope.may_have_any.Goals as goal

pub returns-then-may_have-clause-some : goal.returns-then-may_have-clause-some
returns-then-may_have-clause-some c on =
    let k = c.loop-right.right-index in
    let lt : k < 15 = c.loop-right-test.true in (
      get_or all_rights k c.right-item.result,
      subst (λ n. n < 15) (sym (right_is k c.right-item.result lt)) lt,
      sym c.if-may_have.ensures,
    )

pub loop-right-preserved : goal.loop-right-preserved
loop-right-preserved c right lt =
    let k = c.loop-right.right-index in
    let test : k < 15 = c.loop-right-test.true in
    elim (cases_lt right k) [
      | inl below ↦ c.loop-right.invariant right below
      | inr above ↦
          let here : right ≡ k = omega arith in
          let same = here ∙ sym (right_is k c.right-item.result test) in
          ap (λ r. may_have c.args.self.now r c.args.inode) same ∙ sym c.if-may_have.ensures
    ]
