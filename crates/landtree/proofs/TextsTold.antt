-- What is told of a file that the words name.
use Rattle.std.specs.Prelude.{◌≡◌, ℕ, List, IfErr, IfOk, IfSome, OnOk, Option, Some, Result, Ok, Err}
use Rattle.std.proofs.Common.{subst}
use Rattle.ll_program.specs.Options.{RightsOrder, WhyOrder, asked_by}
use Rattle.ll_program.specs.declared.conclusion.Conclusion.{Conclusion}
use Rattle.ll_program.specs.declared.conclusion.Conclusion.TheVariants.{Done}
use Rattle.ll_program.specs.declared.failure.Failure.{Failure}
use Rattle.ll_wire.specs.Transcript.{Writes}
use Rattle.ll_commands.specs.Difference.{IsDifferenceSo, TellsNoDifference}
use Rattle.ll_commands.specs.Output.{FailsToTell}
use Rattle.ll_commands.specs.RightsEnd.{EndsDifference, EndsTold}
use Rattle.ll_commands.specs.Why as why
use Rattle.ll_commands.specs.Why.{EndsWhy, IsToldSo, file_asked}

module _ (texts : Option (List ℕ) → Option (List ℕ)) (order : WhyOrder) (left out out' : Option (List ℕ))
    (read : left ≡ texts (file_asked (asked_by order))) where
  known : (text : List ℕ) → IfSome left (λ told. text ≡ told)
      → IfSome (texts (file_asked (asked_by order))) (λ told. text ≡ told)
  known text is = subst (λ o. IfSome o (λ told. text ≡ told)) read is

  pub why_ends : (r : Result Conclusion Failure)
      → IfOk r (λ conclusion. (text : List ℕ) × IfSome left (λ told. text ≡ told)
      × Writes out out' (IsToldSo order text conclusion))
      → IfErr r (λ failure. (text : List ℕ) × IfSome left (λ told. text ≡ told)
      × why.MayFail order text out out' failure)
      → EndsWhy texts order out out' r
  why_ends (Ok conclusion) told fails = (told.0, known told.0 told.1, told.2)
  why_ends (Err failure) told fails = (fails.0, known fails.0 fails.1, fails.2)

-- what is left of a source is told of its file
pub of_source : (texts : Option (List ℕ) → Option (List ℕ)) {left : Option (List ℕ)} {file : Option (List ℕ)}
    → left ≡ texts file → (text : List ℕ) → IfSome left (λ told. text ≡ told)
    → IfSome (texts file) (λ told. text ≡ told)
of_source texts read text is = subst (λ o. IfSome o (λ told. text ≡ told)) read is

-- how a table is concluded that is told so
abbrev pub ended : {A : Type 0} → Result A Failure → Result Conclusion Failure
ended (Ok done) = Ok Done
ended (Err failure) = Err failure

module _ (texts : Option (List ℕ) → Option (List ℕ)) (policy : List ℕ) (IsText : List ℕ → List ℕ → Type 0)
    (IsReason : List ℕ → Failure → Type 0) (left out out' : Option (List ℕ)) (read : left ≡ texts (Some policy)) where
  pub told_end : {A : Type 0} (r : Result A Failure)
      → OnOk r ((text : List ℕ) × IfSome left (λ told. text ≡ told) × Writes out out' (IsText text))
      → IfErr r (λ failure. (text : List ℕ) × IfSome left (λ told. text ≡ told)
      × FailsToTell (IsText text) (IsReason text) out out' failure)
      → EndsTold texts policy IsText IsReason out out' (ended r)
  told_end (Ok done) told fails = (told.0, of_source texts read told.0 told.1, told.2)
  told_end (Err failure) told fails = (fails.0, of_source texts read fails.0 fails.1, fails.2)

module _ (texts : Option (List ℕ) → Option (List ℕ)) (order : RightsOrder) (old profile : List ℕ)
    (left left' out out' : Option (List ℕ)) (read : left ≡ texts (Some old))
    (read' : left' ≡ texts (Some order.policy)) where
  pub difference_end : (r : Result Conclusion Failure)
      → IfOk r (λ conclusion. (was is : List ℕ) × IfSome left (λ told. was ≡ told) × IfSome left' (λ told. is ≡ told)
      × Writes out out' (IsDifferenceSo order old profile was is conclusion))
      → IfErr r (λ failure. (was is : List ℕ) × IfSome left (λ told. was ≡ told) × IfSome left' (λ told. is ≡ told)
      × TellsNoDifference order old profile was is out out' failure)
      → EndsDifference texts order old profile out out' r
  difference_end (Ok conclusion) told fails =
      (told.0, told.1, of_source texts read told.0 told.2, of_source texts read' told.1 told.3, told.4)
  difference_end (Err failure) told fails =
      (fails.0, fails.1, of_source texts read fails.0 fails.2, of_source texts read' fails.1 fails.3, fails.4)
