use Rattle.std.specs.Prelude.{refl}
use Rattle.std.proofs.Common.{List, ℕ, inl, inr, subst, sym, ◌≡◌, Err, rules}
use Rattle.ll_program.specs.Rights.{rights_in}
use Rattle.ll_commands.specs.Difference.{IsDifference}
use Rattle.ll_commands.proofs.difference.tell_difference.Goals as goal

pub returns-in_err-told-clause-failure : goal.returns-in_err-told-clause-failure
returns-in_err-told-clause-failure g c =
    let same : c.from_residual.result ≡ Err c.in_err-told.field-0.0 = search rules in
    rw same (let fails = c.in_err-told.ensures.failure in
    (fails.0, fails.1, fails.2, fails.3, inl (fails.4, refl)))

pub returns-in-Ok-clause-told : goal.returns-in-Ok-clause-told
returns-in-Ok-clause-told g c =
    let it = c.in_ok-told.ensures.told in (
      it.0,
      it.1,
      it.2,
      it.3,
      (
        c.as_str.result.now,
        (
          c.in_ok-told.told.found,
          subst (λ (l : List ℕ). IsDifference (rights_in c.args.options.now) c.args.compared.now.old.now
              c.args.compared.now.profile.now it.0 it.1 c.in_ok-told.told.found l) (sym c.as_str.ensures.value) it.4,
          c.concluded_by.ensures,
        ),
        c.in-Ok.ensures.ok,
      ),
    )

pub returns-clause-failure : goal.returns-clause-failure
returns-clause-failure g c =
    let it = c.in_ok-told.ensures.told in
    let fails = c.in-Err.ensures.failure in (
      it.0,
      it.1,
      it.2,
      it.3,
      inr (
        fails.0,
        c.as_str.result.now,
        (
          c.in_ok-told.told.found,
          subst (λ (l : List ℕ). IsDifference (rights_in c.args.options.now) c.args.compared.now.old.now
              c.args.compared.now.profile.now it.0 it.1 c.in_ok-told.told.found l) (sym c.as_str.ensures.value) it.4,
        ),
        fails.1,
      ),
    )
