-- How commands end whose words aren't read for want of memory.
use Rattle.std.specs.Prelude.{◌≡◌, ◌⊎◌, ◌&&◌, ℕ, Bool, true, false, List, [], Option, Some, None, IfSome, Result, Err}
use Rattle.std.specs.Prelude.{is_some, refl}
use Rattle.std.proofs.Common.{inl, inr, subst, sym}
use Rattle.clap.specs.Words.{HasKind, IsAmong, Kinds, kind_of}
use Rattle.clap.specs.declared.error.Error.{Error}
use Rattle.clap.specs.declared.error.kind.ErrorKind.{ErrorKind}
use Rattle.ll_program.specs.Options.{Asked, RightsOrder, WhyOrder, asked_by, fits_why, of_command, of_entry}
use Rattle.ll_program.specs.Failure.{failure_by}
use Rattle.ll_program.specs.declared.conclusion.Conclusion.{Conclusion}
use Rattle.ll_program.specs.declared.failure.Failure.{Failure}
use Rattle.ll_program.specs.declared.failure.Failure.TheVariants.{NoMemory}
use Rattle.ll_program.specs.Rights.{Scope, fits_rights, of_all, of_difference, of_profile, scope_fits}
use Rattle.ll_commands.specs.RightsEnd.{EndsRights, EndsScope}
use Rattle.ll_commands.specs.Why.{EndsWhy, Fails, file_asked}
use Rattle.ll_commands.proofs.Rows.{left}

-- where clap finds no fault and the words aren't read, memory ran out
pub ran_out : (P : Result Conclusion Failure → Type 0) (kinds : Kinds) (e : Error) (r : Result Conclusion Failure)
    → HasKind kinds e → kinds ≡ [] → IfSome (failure_by (kind_of e)) (λ why. r ≡ Err why) → P (Err NoMemory) → P r
ran_out P kinds e r (inl out) none told starved =
    let is : r ≡ Err NoMemory =
    subst (λ (k : ErrorKind). IfSome (failure_by k) (λ why. r ≡ Err why)) out told in
    subst P (sym is) starved
ran_out P kinds e r (inr among) none told starved = absurd (subst (IsAmong (kind_of e)) none among)

module _ (texts : Option (List ℕ) → Option (List ℕ)) (out : Option (List ℕ)) where
  no_scope : (order : RightsOrder) (scope : Option Scope) → scope_fits scope order.layers ≡ true
      → EndsScope texts order scope out out (Err NoMemory)
  no_scope order None fits = absurd (cc fits)
  no_scope order (Some (of_profile profile)) fits =
      let t = left (texts (Some order.policy)) in (t.0, t.1, inl (tt, refl))
  no_scope order (Some of_all) fits =
      let t = left (texts (Some order.policy)) in (t.0, t.1, inl (inr (inl (λ tree. tt)), refl))
  no_scope order (Some (of_difference old profile)) fits =
      let was = left (texts (Some old)) in
      let is = left (texts (Some order.policy)) in
      (was.0, is.0, was.1, is.1, inl (inl tt, refl))

  fitting : (a b : Bool) → (a && b) ≡ true → b ≡ true
  fitting true b e = e
  fitting false b e = absurd (cc e)

  pub no_rights : (order : RightsOrder) → fits_rights order ≡ true → EndsRights texts order out out (Err NoMemory)
  no_rights order fits = no_scope order order.scope (fitting (is_some order.form) _ fits)

  lacks : (nodes : ℕ) (asked : Option Asked) (known : Bool) (file : List ℕ) → (is_some asked && known) ≡ true
      → Fails nodes asked file NoMemory
  lacks nodes None known file e = absurd (cc e)
  lacks nodes (Some (of_entry history number)) known file e = tt
  lacks nodes (Some (of_command policy profile before word)) known file e = tt

  pub no_answer : (order : WhyOrder) → fits_why order ≡ true → EndsWhy texts order out out (Err NoMemory)
  no_answer order fits =
      let t = left (texts (file_asked (asked_by order))) in
      (t.0, t.1, inl (lacks order.nodes (asked_by order) (is_some order.form) t.0 fits, refl))
