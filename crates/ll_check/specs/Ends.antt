-- How the program's check ends. own
use Rattle.std.specs.Prelude.{⊤, ◌≡◌, ◌⊎◌, ℕ, Bool, true, false, List, [], Option, Some, Result, Ok, Err, IfSome}
use Rattle.std.specs.List.{All, AllZip}
use Rattle.ll_program.specs.Options.{CheckOrder}
use Rattle.ll_program.specs.declared.conclusion.Conclusion.{Conclusion}
use Rattle.ll_program.specs.declared.conclusion.Conclusion.TheVariants.{Differs, Done, Judged, Stopped}
use Rattle.ll_program.specs.declared.conclusion.Conclusion.TheVariants as conclusion
use Rattle.ll_program.specs.declared.checked.Checked.{Checked}
use Rattle.ll_program.specs.declared.failure.Failure.{Failure}
use Rattle.ll_program.specs.declared.failure.Failure.TheVariants.{File, NoMemory, Output}
use Rattle.ll_program.specs.Sources.{named, text_in}
use Rattle.ll_check.specs.Files.{HasBegun, IsCheck, MayFail, Source}
use Rattle.ll_check.specs.Races.{IsRaceCheck}
use Rattle.ll_wire.specs.Transcript.{Writes}

-- the file with this name, with its text if that is known
abbrev pub IsSource : (texts : Option (List ℕ) → Option (List ℕ)) → List ℕ → Source → Type 0
IsSource texts name source = (source.name ≡ name) × IfSome (texts (named name)) (λ told. source.text ≡ told)

-- the policy at this path has this text, if that is known
abbrev pub IsPolicySource : (texts : Option (List ℕ) → Option (List ℕ)) → Source → Type 0
IsPolicySource texts policy = IfSome (texts (Some policy.name)) (λ told. policy.text ≡ told)

-- a check of these files, by these policies of sections, or of these schedules
abbrev pub IsCheckBy : (schedule : Bool) → CheckOrder → (policy : List ℕ) → (policies sources : List Source) → Checked
    → (written : List ℕ) → Type 0
IsCheckBy false order policy policies sources end written = IsCheck order policy policies sources end written
IsCheckBy true order policy policies sources end written = IsRaceCheck order sources end written

-- why files, or schedules, aren't checked to the end
abbrev pub MayFailBy : (schedule : Bool) → CheckOrder → (policy : List ℕ) → (policies sources : List Source) → Failure
    → Type 0
MayFailBy false order policy policies sources failure = MayFail order policy policies sources failure
MayFailBy true order policy policies sources failure = (failure ≡ Output) ⊎ (failure ≡ NoMemory)

-- a check of the files that the words name, and of policies that their sections name, has this result and text, if the
-- policy's file has that one
abbrev pub IsCheckOf : (texts : Option (List ℕ) → Option (List ℕ)) → CheckOrder → (policy : List ℕ) → Checked
    → (written : List ℕ) → Type 0
IsCheckOf texts order policy end written =
    (policies sources : List Source) × All (IsPolicySource texts) policies × AllZip (IsSource texts) order.files sources
    × IsCheckBy order.schedule order policy policies sources end written

-- the result of a check of the files that the words name, by the policy and under the profile of the words alone: no
-- section has a policy of its own
abbrev pub IsCheckedUnder : (texts : Option (List ℕ) → Option (List ℕ)) → CheckOrder → (policy : List ℕ) → Checked
    → Type 0
IsCheckedUnder texts order policy end =
    (sources : List Source) × (written : List ℕ) × AllZip (IsSource texts) order.files sources
    × IsCheck order policy [] sources end written

-- the text of the policy that the words name, if one is named and its text is known
abbrev pub IsPolicyText : (texts : Option (List ℕ) → Option (List ℕ)) → (named : Option (List ℕ)) → List ℕ → Type 0
IsPolicyText texts policy text = IfSome (text_in texts policy) (λ told. text ≡ told)

-- why the program's check fails: a file can't be read, or the check of the files may fail
abbrev pub FailsCheck : (texts : Option (List ℕ) → Option (List ℕ)) → CheckOrder → Failure → Type 0
FailsCheck texts order File = ⊤
FailsCheck texts order failure =
    (policy : List ℕ) × (policies sources : List Source) × IsPolicyText texts order.policy policy
    × All (IsPolicySource texts) policies × AllZip (IsSource texts) order.files sources
    × MayFailBy order.schedule order policy policies sources failure

-- what it then has written
abbrev pub BeginsCheck : (texts : Option (List ℕ) → Option (List ℕ)) → CheckOrder → (out out' : Option (List ℕ))
    → Failure → Type 0
BeginsCheck texts order out out' failure =
    (policy : List ℕ) × IsPolicyText texts order.policy policy
    × HasBegun (IsCheckOf texts order policy) out out' failure

-- a check ends as the tests of its files say, by the policy that the words name, and its reports are written
abbrev pub EndsCheck : (texts : Option (List ℕ) → Option (List ℕ)) → CheckOrder → (out out' : Option (List ℕ))
    → Result Conclusion Failure → Type 0
EndsCheck texts order out out' (Ok Done) = ⊥
EndsCheck texts order out out' (Ok (Stopped stopped)) = ⊥
EndsCheck texts order out out' (Ok (Judged verdict)) = ⊥
EndsCheck texts order out out' (Ok Differs) = ⊥
EndsCheck texts order out out' (Ok (conclusion.Checked end)) =
    (policy : List ℕ) × IsPolicyText texts order.policy policy × Writes out out' (IsCheckOf texts order policy end)
EndsCheck texts order out out' (Err failure) = FailsCheck texts order failure × BeginsCheck texts order out out' failure
