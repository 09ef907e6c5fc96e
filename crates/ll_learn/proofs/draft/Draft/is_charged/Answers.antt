use Rattle.std.proofs.Common.{◌≡◌, ◌<◌, true, sym, ◌∙◌, subst, refl, arith, get_or, inl, inr}
use Rattle.std.specs.List.{list_any}
use Rattle.std.proofs.lemmas.Bool.{cases_lt}
use Rattle.ll_rights.specs.Right.{all_rights}
use Rattle.ll_learn.specs.Draft.{has, is_charge}
use Rattle.ll_learn.proofs.Solutions.{right_is}
use Rattle.ll_learn.proofs.draft.Draft.is_charged.Goals as goal

pub returns-then-not-is_charged_with : goal.returns-then-not-is_charged_with
returns-then-not-is_charged_with c =
    let k = c.loop-right.right-index in
    let r = get_or all_rights k c.right-item.result in
    let lt : k < 15 = c.loop-right-test.true in (
      λ no. absurd (cc no),
      λ charged. c.if-not-is_charged_with.ensures.1 (λ inode. charged inode r
          (subst (λ n. n < 15) (sym (right_is k c.right-item.result lt)) lt)),
    )

pub loop-right-preserved : goal.loop-right-preserved
loop-right-preserved c inode right lt at =
    let k = c.loop-right.right-index in
    let r = get_or all_rights k c.right-item.result in
    let test : k < 15 = c.loop-right-test.true in
    elim (cases_lt right k) [
      | inl below ↦ c.loop-right.invariant inode right below at
      | inr above ↦
          let is = right_is k c.right-item.result test in
          let here : right ≡ k = omega arith in
          let same : right ≡ r = here ∙ sym is in
          subst (λ n. list_any (is_charge c.args.scope.now n inode) c.args.needs.now.asks.items ≡ true) (sym same)
          (c.if-not-is_charged_with.ensures.0 refl inode (subst (λ n. has c.args.self.now n inode ≡ true) same at))
    ]
