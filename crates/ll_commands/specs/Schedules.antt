-- What the words of a schedule set up, and how it ends. own
use Rattle.std.specs.Prelude.{◌≡◌, ◌⊎◌, ℕ, Bool, true, false, List, [], Option, None, Some, Result, Ok, Err, IfSome}
use Rattle.std.specs.Prelude.{string_bytes, unwrap_or, if◌then◌else◌}
use Rattle.std.specs.Option.{option_map_or}
use Rattle.ll_rights.specs.declared.errno.Errno.{Errno}
use Rattle.ll_rights.specs.declared.errno.Errno.TheVariants.{BadLine}
use Rattle.ll_steps.specs.declared.halt.Halt.{Halt}
use Rattle.ll_steps.specs.declared.report.Report.{Report}
use Rattle.ll_steps.specs.declared.setup.WorldSetup.{WorldSetup}
use Rattle.ll_steps.specs.Tells.{answer_line}
use Rattle.ll_steps.specs.Told.{IsBegunAs, IsToldAs}
use Rattle.ll_picture.specs.declared.window.Window.{Window}
use Rattle.ll_program.specs.Failure.{IsOfDevices, place_line}
use Rattle.ll_program.specs.Options.{ScheduleOrder}
use Rattle.clap.specs.Words.{Text}
use Rattle.ll_program.specs.declared.conclusion.Conclusion.{Conclusion}
use Rattle.ll_program.specs.declared.conclusion.Conclusion.TheVariants.{Checked, Differs, Done, Judged, Stopped}
use Rattle.ll_program.specs.declared.failure.Failure.{Failure}
use Rattle.ll_program.specs.declared.stopped.Stopped as known
use Rattle.ll_wire.specs.Transcript.{Writes}

-- the setup asked for
pub record IsWorldSetup (order : ScheduleOrder) (setup : WorldSetup) : Type 0 where
  pub rules : setup.rules ≡ record { abi = unwrap_or order.level 3; copies = true }
  pub nodes : setup.nodes ≡ order.nodes
  pub history : setup.history ≡ order.history

-- the lines to draw; by default from the first on
abbrev pub window_of : ScheduleOrder → Window
window_of order = record { from = unwrap_or order.from 1; to = order.to }

-- the lines to draw, of a schedule that is drawn; of another none
abbrev pub filmed_of : ScheduleOrder → Window
filmed_of order =
    option_map_or (λ (picture : Text). window_of order) order.picture (record { from = 1; to = Some 0 })

-- The schedule with this text, if that is known, was run in the world asked for, strictly or not, and its lines were
-- written, up to the line that ended it, if one did. Only a strict one is ended
abbrev pub RunsSchedule : ScheduleOrder → (text out out' : Option (List ℕ)) → Option Halt → Type 0
RunsSchedule order text out out' halt =
    (setup : WorldSetup) × IsWorldSetup order setup × (order.strict ≡ false → halt ≡ None)
    × IfSome text (λ input. Writes out out' (λ lines. IsToldAs order.strict setup input lines halt))

-- or a prefix of them
abbrev pub BeginsSchedule : ScheduleOrder → (text out out' : Option (List ℕ)) → Type 0
BeginsSchedule order text out out' =
    (setup : WorldSetup) × IsWorldSetup order setup
    × IfSome text (λ input. Writes out out' (IsBegunAs order.strict setup input))

-- why a schedule isn't run to its end, or not drawn: nothing is written, or a prefix of its lines, or all of them
abbrev pub FailsSchedule : ScheduleOrder → (text out out' : Option (List ℕ)) → Failure → Type 0
FailsSchedule order text out out' failure =
    IsOfDevices failure × ((out' ≡ out) ⊎ BeginsSchedule order text out out')

-- whether a line with this outcome spells no step
abbrev pub is_bad : Result Report Errno → Bool
is_bad (Err BadLine) = true
is_bad answer = false

-- what is known of a schedule in this file that this line ended: its number and its outcome, and whether it is bad
abbrev pub IsHalted : (file : List ℕ) → Halt → known.Stopped → Type 0
IsHalted file halt stopped =
    (string_bytes stopped.line ≡ place_line file halt.line (answer_line [] halt.answer))
    × (stopped.bad_line ≡ (if is_bad halt.answer then Some halt.line else None))

-- what is concluded from the line that ended the schedule in this file, if one did
abbrev pub IsScheduleEnd : (file : List ℕ) → Option Halt → Conclusion → Type 0
IsScheduleEnd file None end = end ≡ Done
IsScheduleEnd file (Some halt) (Stopped stopped) = IsHalted file halt stopped
IsScheduleEnd file (Some halt) end = ⊥

-- The lines of the schedule with this text, if that is known, are written, to its end: those of a strict one were all
-- steps that were enabled and made. Or up to the first line of a strict one that wasn't, which is named. Or it fails
abbrev pub EndsSchedule : (text : Option (List ℕ)) → ScheduleOrder → (out out' : Option (List ℕ))
    → Result Conclusion Failure → Type 0
EndsSchedule text order out out' (Ok Done) = RunsSchedule order text out out' None
EndsSchedule text order out out' (Ok (Stopped stopped)) =
    (halt : Halt) × RunsSchedule order text out out' (Some halt) × IsHalted order.file halt stopped
EndsSchedule text order out out' (Ok (Judged verdict)) = ⊥
EndsSchedule text order out out' (Ok (Checked end)) = ⊥
EndsSchedule text order out out' (Ok Differs) = ⊥
EndsSchedule text order out out' (Err failure) = FailsSchedule order text out out' failure
