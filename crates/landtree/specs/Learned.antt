-- How `learn` ends, if the files have these texts. own
use Rattle.std.specs.Prelude.{◌≡◌, ◌⊎◌, ℕ, ◌==◌, ◌&&◌, Bool, true, false, not, nat_le, List, Option, Some, None}
use Rattle.std.specs.Prelude.{Result, Ok, Err, IfSome}
use Rattle.std.specs.List.{AllZip, list_all}
use Rattle.ll_program.specs.Options.{LearnOrder}
use Rattle.ll_program.specs.Learn.{Lesson, of_checks, of_history}
use Rattle.ll_program.specs.Sources.{named}
use Rattle.ll_program.specs.declared.checked.Checked.{Checked}
use Rattle.ll_program.specs.declared.conclusion.Conclusion.{Conclusion}
use Rattle.ll_program.specs.declared.failure.Failure.{Failure}
use Rattle.ll_program.specs.declared.failure.Failure.TheVariants.{CommandLine, File, NoMemory}
use Rattle.ll_check.specs.Ends.{IsPolicyText, IsSource}
use Rattle.ll_check.specs.Files.{Source}
use Rattle.ll_check.specs.Lessons.{EndsLessons}
use Rattle.ll_commands.specs.Export.{ended_by}
use Rattle.ll_commands.specs.Learn.{IsLearning}

-- the conclusion from lessons: if all pass, a profile was written
abbrev pub concluded : Result Checked Failure → Result Conclusion Failure
concluded (Ok end) = Ok (ended_by end)
concluded (Err failure) = Err failure

-- not a control character (0 to 31, 127), which could end a comment
abbrev pub is_of_line : ℕ → Bool
is_of_line byte = nat_le 32 byte && not (byte == 127)

-- A file's name isn't one line; or one of the named files can't be read; or their lessons end like this, by the policy
-- that is named
abbrev pub EndsByChecks : (texts : Option (List ℕ) → Option (List ℕ)) → LearnOrder → (out out' : Option (List ℕ))
    → Result Conclusion Failure → Type 0
EndsByChecks texts order out out' result =
    ((out' ≡ out) × (((result ≡ Err CommandLine)
    × (list_all (λ name. list_all is_of_line name) order.files ≡ false))
    ⊎ ((result ≡ Err File) × (list_all (λ name. list_all is_of_line name) order.files ≡ true))
    ⊎ (result ≡ Err NoMemory)))
    ⊎ ((policy : List ℕ) × (sources : List Source) × (end : Result Checked Failure)
    × IsPolicyText texts order.policy policy × AllZip (IsSource texts) order.files sources
    × EndsLessons order policy sources out out' end × (result ≡ concluded end)
    × (list_all (λ name. list_all is_of_line name) order.files ≡ true))

-- how it ends with the history of this name
abbrev pub EndsByHistory : (texts : Option (List ℕ) → Option (List ℕ)) → LearnOrder → (history : List ℕ)
    → (out out' : Option (List ℕ)) → Result Conclusion Failure → Type 0
EndsByHistory texts order history out out' result =
    (text : List ℕ) × IfSome (texts (named history)) (λ told. text ≡ told) × IsLearning order text out out' result

-- words that ask for both or for neither are a fault, or memory runs out
abbrev pub EndsLearned : (texts : Option (List ℕ) → Option (List ℕ)) → LearnOrder → Option Lesson
    → (out out' : Option (List ℕ)) → Result Conclusion Failure → Type 0
EndsLearned texts order None out out' result =
    ((result ≡ Err CommandLine) ⊎ (result ≡ Err NoMemory)) × (out' ≡ out)
EndsLearned texts order (Some (of_checks policy)) out out' result = EndsByChecks texts order out out' result
EndsLearned texts order (Some (of_history history client)) out out' result =
    EndsByHistory texts order history out out' result
