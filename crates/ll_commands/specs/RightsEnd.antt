-- How `rights` ends. own
use Rattle.std.specs.Prelude.{◌≡◌, ℕ, List, Option, Some, None, IfSome, Result, Ok, Err}
use Rattle.clap.specs.Words.{Text}
use Rattle.ll_program.specs.Options.{RightsOrder, Scope, of_all, of_difference, of_profile}
use Rattle.ll_program.specs.declared.conclusion.Conclusion.{Conclusion}
use Rattle.ll_program.specs.declared.conclusion.Conclusion.TheVariants.{Checked, Differs, Done, Judged, Stopped}
use Rattle.ll_program.specs.declared.failure.Failure.{Failure}
use Rattle.ll_program.specs.declared.failure.Failure.TheVariants.{CommandLine}
use Rattle.ll_commands.specs.Difference.{IsDifferenceSo, TellsNoDifference}
use Rattle.ll_commands.specs.Output.{FailsToTell}
use Rattle.ll_commands.specs.Profiles.{IsAllTables, LacksTables}
use Rattle.ll_commands.specs.Rights.{IsTable, LacksTable}
use Rattle.ll_wire.specs.Transcript.{Writes}

-- such a text on the policy that the words name is written; or it isn't written whole
abbrev pub EndsTold : (texts : Option (List ℕ) → Option (List ℕ)) → (policy : Text)
    → (IsText : (policy text : List ℕ) → Type 0) → (IsReason : (policy : List ℕ) → Failure → Type 0)
    → (out out' : Option (List ℕ)) → Result Conclusion Failure → Type 0
EndsTold texts policy IsText IsReason out out' (Ok Done) =
    (text : List ℕ) × IfSome (texts (Some policy)) (λ told. text ≡ told) × Writes out out' (IsText text)
EndsTold texts policy IsText IsReason out out' (Ok (Stopped stopped)) = ⊥
EndsTold texts policy IsText IsReason out out' (Ok (Judged verdict)) = ⊥
EndsTold texts policy IsText IsReason out out' (Ok (Checked end)) = ⊥
EndsTold texts policy IsText IsReason out out' (Ok Differs) = ⊥
EndsTold texts policy IsText IsReason out out' (Err failure) =
    (text : List ℕ) × IfSome (texts (Some policy)) (λ told. text ≡ told)
    × FailsToTell (IsText text) (IsReason text) out out' failure

-- the lines of the difference between both policies that the words name are written, and what they conclude is
-- concluded: `Differs` if anything differs, else `Done`; or they aren't written whole
abbrev pub EndsDifference : (texts : Option (List ℕ) → Option (List ℕ)) → RightsOrder → (old profile : Text)
    → (out out' : Option (List ℕ)) → Result Conclusion Failure → Type 0
EndsDifference texts order old profile out out' (Ok conclusion) =
    (was is : List ℕ) × IfSome (texts (Some old)) (λ told. was ≡ told)
    × IfSome (texts (Some order.policy)) (λ told. is ≡ told)
    × Writes out out' (IsDifferenceSo order old profile was is conclusion)
EndsDifference texts order old profile out out' (Err failure) =
    (was is : List ℕ) × IfSome (texts (Some old)) (λ told. was ≡ told)
    × IfSome (texts (Some order.policy)) (λ told. is ≡ told)
    × TellsNoDifference order old profile was is out out' failure

-- what is asked for is written; or it isn't written whole. Words that ask for nothing are a fault
abbrev pub EndsScope : (texts : Option (List ℕ) → Option (List ℕ)) → RightsOrder → Option Scope
    → (out out' : Option (List ℕ)) → Result Conclusion Failure → Type 0
EndsScope texts order None out out' result = (result ≡ Err CommandLine) × (out' ≡ out)
EndsScope texts order (Some (of_profile profile)) out out' result =
    EndsTold texts order.policy (IsTable order profile) (LacksTable order profile) out out' result
EndsScope texts order (Some of_all) out out' result =
    EndsTold texts order.policy (IsAllTables order) (LacksTables order) out out' result
EndsScope texts order (Some (of_difference old profile)) out out' result =
    EndsDifference texts order old profile out out' result

abbrev pub EndsRights : (texts : Option (List ℕ) → Option (List ℕ)) → RightsOrder → (out out' : Option (List ℕ))
    → Result Conclusion Failure → Type 0
EndsRights texts order = EndsScope texts order order.scope
