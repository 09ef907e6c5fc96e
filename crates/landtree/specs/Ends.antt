-- How the program ends with this order, if the files have these texts. own
use Rattle.std.specs.Prelude.{◌≡◌, ◌⊎◌, ℕ, Bool, true, false, List, Option, Result, Err}
use Rattle.ll_program.specs.Options.{Order, fits, fits_check, fits_export, fits_rights, fits_schedule, fits_serve}
use Rattle.ll_program.specs.Learn.{lessons_by}
use Rattle.ll_program.specs.Options.{fits_why, is_checked, to_audit, to_check, to_export}
use Rattle.ll_program.specs.Options.{to_learn, to_rights, to_run, to_schedule, to_serve, to_why}
use Rattle.ll_program.specs.declared.conclusion.Conclusion.{Conclusion}
use Rattle.ll_program.specs.declared.failure.Failure.{Failure}
use Rattle.ll_program.specs.declared.failure.Failure.TheVariants.{CommandLine, NoMemory}
use Rattle.ll_program.specs.Failure.{EndsAudit, EndsExport}
use Rattle.ll_program.specs.Policy.{EndsRun}
use Rattle.ll_program.specs.Sources.{named}
use Rattle.ll_check.specs.Ends.{EndsCheck}
use Rattle.ll_commands.specs.RightsEnd.{EndsRights}
use Rattle.ll_commands.specs.Schedules.{EndsSchedule}
use Rattle.ll_commands.specs.Service.{EndsServe}
use Rattle.ll_commands.specs.Why.{EndsWhy}
use Rattle.landtree.specs.Checked.{EndsChecked, WritesExport}
use Rattle.landtree.specs.Learned.{EndsLearned}

-- words that don't go together are a fault, or memory runs out, and nothing is written
abbrev pub EndsFitting : (fit : Bool) → Type 0 → (out out' : Option (List ℕ)) → Result Conclusion Failure → Type 0
EndsFitting false End out out' result = ((result ≡ Err CommandLine) ⊎ (result ≡ Err NoMemory)) × (out' ≡ out)
EndsFitting true End out out' result = End

-- of the output, what it held before and what it holds afterwards, if known
abbrev pub Ends : (texts : Option (List ℕ) → Option (List ℕ)) → Order → (out out' : Option (List ℕ))
    → Result Conclusion Failure → Type 0
Ends texts (to_run order) out out' result =
    EndsFitting (fits order) (EndsRun texts order out out' result) out out' result
Ends texts (to_audit file) out out' result = EndsAudit (texts (named file)) out out' result
Ends texts (to_schedule order) out out' result =
    EndsFitting (fits_schedule order) (EndsSchedule (texts (named order.file)) order out out' result) out out' result
Ends texts (to_rights order) out out' result =
    EndsFitting (fits_rights order) (EndsRights texts order out out' result) out out' result
Ends texts (to_check order) out out' result =
    EndsFitting (fits_check order) (EndsCheck texts order out out' result) out out' result
Ends texts (to_serve order) out out' result =
    EndsFitting (fits_serve order) (EndsServe texts order out out' result) out out' result
Ends texts (to_export order) out out' result =
    EndsFitting (fits_export order)
    (EndsExport (is_checked order) result × WritesExport texts order out out' result
    × (is_checked order ≡ true → EndsChecked texts order out out' result)) out out' result
Ends texts (to_why order) out out' result =
    EndsFitting (fits_why order) (EndsWhy texts order out out' result) out out' result
Ends texts (to_learn order) out out' result = EndsLearned texts order (lessons_by order) out out' result
