-- How the program ends, whatever it is asked for.
use Rattle.std.specs.Prelude.{◌≡◌, ℕ, Bool, true, false, List, Option, Some, None, Result, Err, refl}
use Rattle.std.proofs.Common.{inl, inr}
use Rattle.std.proofs.KnownBytes.{Keeps-refl}
use Rattle.ll_program.specs.Options.{LearnOrder, Order, fits, fits_check, fits_export, fits_rights}
use Rattle.ll_program.specs.Learn.{Lesson, lessons_by, of_checks, of_history}
use Rattle.ll_program.specs.Options.{fits_schedule, fits_serve, fits_why, to_audit}
use Rattle.ll_program.specs.Options.{to_check, to_export, to_learn, to_rights, to_run, to_schedule, to_serve, to_why}
use Rattle.ll_program.specs.declared.conclusion.Conclusion.{Conclusion}
use Rattle.ll_program.specs.declared.failure.Failure.{Failure}
use Rattle.ll_program.specs.declared.failure.Failure.TheVariants.{CommandLine, NoMemory}
use Rattle.ll_program.specs.Sources.{named}
use Rattle.ll_commands.proofs.Rows.{left}
use Rattle.landtree.specs.Ends.{Ends, EndsFitting}
use Rattle.landtree.specs.Learned.{EndsLearned}
use Rattle.landtree.proofs.CheckedFiles.{none_written, unread}
use Rattle.landtree.proofs.Starved.{no_answer, no_rights}

-- words that go together or not
pub fitted : (fit : Bool) (End : Type 0) (out out' : Option (List ℕ)) (r : Result Conclusion Failure)
    → (fit ≡ false → (r ≡ Err CommandLine) × (out' ≡ out)) → (fit ≡ true → End) → EndsFitting fit End out out' r
fitted false End out out' r unfit ends = let u = unfit refl in (inl u.0, u.1)
fitted true End out out' r unfit ends = ends refl

-- memory may run out before that is known
pub starved_fitting : (fit : Bool) (End : Type 0) (out : Option (List ℕ)) → (fit ≡ true → End)
    → EndsFitting fit End out out (Err NoMemory)
starved_fitting false End out ends = (inr refl, refl)
starved_fitting true End out ends = ends refl

module _ (texts : Option (List ℕ) → Option (List ℕ)) (out : Option (List ℕ)) where
  no_lesson : (order : LearnOrder) (lesson : Option Lesson) → EndsLearned texts order lesson out out (Err NoMemory)
  no_lesson order None = (inr refl, refl)
  no_lesson order (Some (of_checks policy)) = inl (refl, inr (inr refl))
  no_lesson order (Some (of_history history client)) = let t = left (texts (named history)) in (t.0, t.1, refl)

  -- nothing is written
  pub no_end : (order : Order) → Ends texts order out out (Err NoMemory)
  no_end (to_run order) = starved_fitting (fits order) _ out (λ fit. inl (tt, refl))
  no_end (to_audit file) = refl
  no_end (to_schedule order) = starved_fitting (fits_schedule order) _ out (λ fit. (tt, inl refl))
  no_end (to_rights order) = starved_fitting (fits_rights order) _ out (λ fit. no_rights texts out order fit)
  no_end (to_check order) =
      starved_fitting (fits_check order) _ out (λ fit.
      (unread texts order NoMemory (inr refl), none_written texts order out NoMemory))
  no_end (to_serve order) = starved_fitting (fits_serve order) _ out (λ fit. inl (tt, refl))
  no_end (to_export order) =
      starved_fitting (fits_export order) _ out (λ fit. (inr tt, inl (Keeps-refl out), λ is. tt))
  no_end (to_why order) = starved_fitting (fits_why order) _ out (λ fit. no_answer texts out order fit)
  no_end (to_learn order) = no_lesson order (lessons_by order)
