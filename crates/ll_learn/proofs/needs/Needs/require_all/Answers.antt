use Rattle.std.proofs.Common.{◌≡◌, ◌<◌, ap, sym, ◌∙◌, subst, arith, get_or, inl, inr, refl}
use Rattle.std.proofs.lemmas.Bool.{both_ways, cases_lt}
use Rattle.ll_rights.specs.Access.{holds}
use Rattle.ll_rights.specs.Right.{all_rights}
use Rattle.ll_rules.specs.Layer.{grants_on}
use Rattle.ll_learn.proofs.Solutions.{right_is}
use Rattle.ll_learn.proofs.needs.Needs.require_all.Goals.{else-holds-via-then-holds+else-not-require}
use Rattle.ll_learn.proofs.needs.Needs.require_all.Goals.{else-holds-via-else-holds}
use Rattle.ll_learn.proofs.needs.Needs.require_all.Goals as goal

pub loop-right-preserved : goal.loop-right-preserved
loop-right-preserved c right lt has layer meets =
    let k = c.loop-right.right-index in
    let r = get_or all_rights k c.right-item.result in
    let test : k < 15 = c.loop-right-test.true in
    elim (cases_lt right k) [
      | inl below ↦ c.loop-right.invariant right below has layer meets
      | inr above ↦
          let here : right ≡ k = omega arith in
          let is = right_is k c.right-item.result test in
          let same : right ≡ r = here ∙ sym is in
          elim c.else-holds.branch [
            | else-holds-via-then-holds+else-not-require w ↦
                ap (grants_on layer c.args.path.now) same
                ∙ w.if-not-require.ensures refl (subst (λ n. n < 15) (sym is) test) layer meets
            | else-holds-via-else-holds w ↦ absurd (both_ways (holds c.args.rights.0 right)
                (ap (holds c.args.rights.0) same ∙ sym w.if-holds.ensures) has)
          ]
    ]
