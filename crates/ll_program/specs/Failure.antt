-- How the program ends if it fails. own
use Rattle.std.specs.Prelude.{◌≡◌, ◌≢◌, ◌⊎◌, ◌++◌, ⊤, ℕ, Bool, true, List, Option, Some, None, Result, Ok, Err, codes}
use Rattle.std.specs.Prelude.{IfSome, [], decimal, is_some, string_bytes}
use Rattle.std.specs.Fmt.{with_newline}
use Rattle.std.specs.Io.KnownBytes.{Appends}
use Rattle.clap.specs.declared.error.kind.ErrorKind.{ErrorKind}
use Rattle.clap.specs.declared.error.kind.ErrorKind.TheVariants.{DisplayHelp, DisplayVersion}
use Rattle.clap.specs.declared.error.kind.ErrorKind.TheVariants as kind
use Rattle.ll_policy.specs.declared.fault.PolicyFault.{PolicyFault}
use Rattle.ll_policy.specs.declared.fault.PolicyFault.TheVariants as wrong
use Rattle.ll_session.specs.declared.fault.RunFault.{RunFault}
use Rattle.ll_session.specs.declared.fault.RunFault.TheVariants as run
use Rattle.ll_session.specs.declared.stop.Stop.{Stop}
use Rattle.ll_session.specs.declared.stop.Stop.TheVariants.{AtLine, AtOpening}
use Rattle.ll_wire.specs.declared.fault.SessionFault.{SessionFault}
use Rattle.ll_wire.specs.declared.fault.SessionFault.TheVariants as session
use Rattle.ll_audit.specs.declared.file_audit.FileAuditFault.{FileAuditFault}
use Rattle.ll_audit.specs.declared.file_audit.FileAuditFault.TheVariants as audit
use Rattle.ll_audit.specs.declared.archive.SaveFault.{SaveFault}
use Rattle.ll_audit.specs.declared.archive.SaveFault.TheVariants as saving
use Rattle.ll_audit.specs.declared.verdict.Verdict.{Verdict}
use Rattle.ll_audit.specs.declared.verdict.Verdict.TheVariants.{Legal, Illegal, BadLine}
use Rattle.ll_audit.specs.Saved.{Judges, verdict_line}
use Rattle.ll_wire.specs.Grammar.{reply_line}
use Rattle.ll_wire.specs.Pieces.{pieces}
use Rattle.ll_wire.specs.WriterGains.{AppendsFront}
use Rattle.ll_program.specs.declared.failure.Failure.{Failure}
use Rattle.ll_program.specs.declared.failure.Failure.TheVariants.{CommandLine, Policy, Opening, File, Output, Socket}
use Rattle.ll_program.specs.declared.failure.Failure.TheVariants.{NoMemory}
use Rattle.ll_program.specs.declared.conclusion.Conclusion.{Conclusion}
use Rattle.ll_program.specs.declared.conclusion.Conclusion.TheVariants.{Checked, Differs, Done, Judged, Stopped}
use Rattle.ll_program.specs.declared.checked.Checked.TheVariants as checked

abbrev pub failure_in_session : SessionFault → Failure
failure_in_session session.Read = File
failure_in_session session.Write = Output
failure_in_session session.NoMemory = NoMemory
failure_in_session session.TooLong = File

abbrev pub failure_of : RunFault → Failure
failure_of (run.Opening refusal) = Opening refusal
failure_of (run.Session fault) = failure_in_session fault

abbrev pub failure_in : PolicyFault → Failure
failure_in wrong.NoMemory = NoMemory
failure_in fault = Policy fault

abbrev pub status_of : Failure → ℕ
status_of CommandLine = 2
status_of (Policy fault) = 2
status_of (Opening refusal) = 2
status_of File = 1
status_of Output = 1
status_of Socket = 1
status_of NoMemory = 4

-- help and the version aren't failures
abbrev pub failure_by : ErrorKind → Option Failure
failure_by DisplayHelp = None
failure_by DisplayVersion = None
failure_by kind.OutOfMemory = Some NoMemory
failure_by _ = Some CommandLine

abbrev pub failure_by_saving : SaveFault → Failure
failure_by_saving saving.Write = File
failure_by_saving saving.NoMemory = NoMemory

abbrev pub failure_at : FileAuditFault → Failure
failure_at audit.Read = File
failure_at audit.Write = Output
failure_at audit.NoMemory = NoMemory

-- 3 only for rights that differ, for a history that isn't legal, for checks of which one fails, and for a strict run or
-- schedule that ends early
abbrev pub status_by : Conclusion → ℕ
status_by Done = 0
status_by (Stopped stopped) = 3
status_by (Judged (Legal entries)) = 0
status_by (Judged (Illegal entry)) = 3
status_by (Judged (BadLine line)) = 3
status_by (Checked checked.Passed) = 0
status_by (Checked checked.Failed) = 3
status_by (Checked checked.BadLine) = 2
status_by Differs = 3

abbrev pub status_at : Result Conclusion Failure → ℕ
status_at (Ok conclusion) = status_by conclusion
status_at (Err failure) = status_of failure

-- the line on standard error. No definition says which fault of a policy it names
abbrev pub line_of : Failure → Option (List ℕ)
line_of CommandLine = Some (codes "landtree: command line")
line_of (Policy fault) = None
line_of (Opening refusal) = Some (codes "landtree: opening call refused")
line_of File = Some (codes "landtree: file")
line_of Output = Some (codes "landtree: output")
line_of Socket = Some (codes "landtree: socket")
line_of NoMemory = Some (codes "landtree: no memory")

-- what is printed if the program ends like this: nothing, unless it fails or stops
abbrev pub end_line : Result Conclusion Failure → Option (List ℕ)
end_line (Ok (Stopped stopped)) = Some (string_bytes stopped.line)
end_line (Ok conclusion) = Some []
end_line (Err failure) = with_newline (line_of failure)

-- which line of a script or a schedule ended it, and the line that answers that one
abbrev pub place_line : (file : List ℕ) → (line : ℕ) → (answer : List ℕ) → List ℕ
place_line file line answer = file ++ (codes ":" ++ decimal line ++ codes ": ") ++ answer

-- where a strict run of this script ended, and the line of the reply
abbrev pub stop_line : List ℕ → Stop → List ℕ
stop_line script (AtLine line reply) = place_line script line (reply_line reply)
stop_line script (AtOpening refusal) = script ++ codes ": before line 1: " ++ reply_line refusal.reply

-- saving a history, or drawing a picture, fails by its file or by memory
abbrev pub IsOfSaving : Failure → Type 0
IsOfSaving File = ⊤
IsOfSaving NoMemory = ⊤
IsOfSaving failure = ⊥

-- a schedule fails by its file or its picture's, by its output, or by memory
abbrev pub IsOfDevices : Failure → Type 0
IsOfDevices File = ⊤
IsOfDevices Output = ⊤
IsOfDevices NoMemory = ⊤
IsOfDevices failure = ⊥

-- Why an audit has no verdict on these bytes. Only if the output fails, anything is written: a prefix of the verdict's
-- line
abbrev pub FailsAudit : Option (List ℕ) → (out out' : Option (List ℕ)) → Failure → Type 0
FailsAudit text out out' CommandLine = ⊥
FailsAudit text out out' (Policy fault) = ⊥
FailsAudit text out out' (Opening refusal) = ⊥
FailsAudit text out out' File = out' ≡ out
FailsAudit text out out' Output =
    (verdict : Verdict) × IfSome text (λ bytes. Judges (pieces bytes) verdict)
    × AppendsFront out out' (verdict_line verdict)
FailsAudit text out out' Socket = ⊥
FailsAudit text out out' NoMemory = out' ≡ out

-- an audit writes the verdict on the bytes of its file, if these are known, and ends with it
abbrev pub EndsAudit : Option (List ℕ) → (out out' : Option (List ℕ)) → Result Conclusion Failure → Type 0
EndsAudit text out out' (Ok Done) = ⊥
EndsAudit text out out' (Ok (Stopped stopped)) = ⊥
EndsAudit text out out' (Ok (Judged verdict)) =
    IfSome text (λ bytes. Judges (pieces bytes) verdict) × Appends out out' (verdict_line verdict)
EndsAudit text out out' (Ok (Checked end)) = ⊥
EndsAudit text out out' (Ok Differs) = ⊥
EndsAudit text out out' (Err failure) = FailsAudit text out out' failure

-- why nothing is begun: the file that is to be written is one that is used otherwise, or memory runs out
abbrev pub IsOfBeginning : (file : Option (List ℕ)) → Failure → Type 0
IsOfBeginning file File = is_some file ≡ true
IsOfBeginning file NoMemory = ⊤
IsOfBeginning file failure = ⊥

-- why a profile isn't exported, if nothing is run: any failure but a refused call and a listener's
abbrev pub IsOfExport : Failure → Type 0
IsOfExport CommandLine = ⊤
IsOfExport (Policy fault) = ⊤
IsOfExport (Opening refusal) = ⊥
IsOfExport File = ⊤
IsOfExport Output = ⊤
IsOfExport Socket = ⊥
IsOfExport NoMemory = ⊤

-- A profile is exported, or there is a reason. If it must pass checks first, failed checks or any failure may be the
-- reason
abbrev pub EndsExport : (is_checked : Bool) → Result Conclusion Failure → Type 0
EndsExport is_checked (Ok Done) = ⊤
EndsExport is_checked (Ok (Stopped stopped)) = ⊥
EndsExport is_checked (Ok (Judged verdict)) = ⊥
EndsExport is_checked (Ok (Checked end)) = (is_checked ≡ true) × (end ≢ checked.Passed)
EndsExport is_checked (Ok Differs) = ⊥
EndsExport is_checked (Err failure) = (is_checked ≡ true) ⊎ IsOfExport failure
