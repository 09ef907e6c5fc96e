-- Schedules that the words ask for.
use Rattle.std.proofs.Common.{◌≡◌, ◌⊎◌, ℕ, Bool, true, false, List, [], Option, Some, None, Result, Ok, Err, refl, sym}
use Rattle.std.specs.Prelude.{IfErr, IfOk, IfSome, OnErr, OnOk}
use Rattle.std.proofs.Common.{◌+◌, ◌∙◌, ap, append-nil, arith, inl, inr, length, subst}
use Rattle.std.specs.Io.KnownBytes.{Appends}
use Rattle.ll_picture.specs.Pictures.{IsPicture}
use Rattle.ll_picture.specs.Windows.{drawn_of}
use Rattle.ll_picture.specs.declared.window.Window.{Window}
use Rattle.ll_wire.specs.Transcript.{Writes}
use Rattle.ll_steps.specs.declared.halt.Halt.{Halt}
use Rattle.ll_steps.specs.declared.setup.WorldSetup.{WorldSetup}
use Rattle.ll_steps.specs.Told.{IsBegunAs, IsToldAs, lines_answered}
use Rattle.ll_program.specs.Options.{ScheduleOrder}
use Rattle.ll_program.specs.Failure.{IsOfDevices, IsOfSaving}
use Rattle.ll_program.specs.declared.conclusion.Conclusion.{Conclusion}
use Rattle.ll_program.specs.declared.conclusion.Conclusion.TheVariants.{Checked, Differs, Done, Judged, Stopped}
use Rattle.ll_program.specs.declared.failure.Failure.{Failure}
use Rattle.ll_program.specs.declared.failure.Failure.TheVariants.{CommandLine, Policy, Opening, File, Output, Socket}
use Rattle.ll_program.specs.declared.failure.Failure.TheVariants.{NoMemory}
use Rattle.ll_commands.specs.Schedules.{EndsSchedule, FailsSchedule, IsScheduleEnd, IsWorldSetup, RunsSchedule}

module _ (order : ScheduleOrder) (setup : WorldSetup) (is : IsWorldSetup order setup)
    (left out out' : Option (List ℕ)) where
  -- `halt` is what ended it
  pub performed : {A : Type 0} (halt : A → Option Halt) (r : Result A Failure)
      → IfOk r (λ it. IfSome left (λ input. Writes out out' (λ text. IsToldAs order.strict setup input text (halt it))))
      → IfOk r (λ it. order.strict ≡ false → halt it ≡ None)
      → IfOk r (λ it. RunsSchedule order left out out' (halt it))
  performed halt (Ok it) told lax = (setup, is, lax, told)
  performed halt (Err failure) told lax = tt

  pub unperformed : {A : Type 0} (r : Result A Failure) → IfErr r IsOfDevices
      → OnErr r (IfSome left (λ input. Writes out out' (IsBegunAs order.strict setup input)))
      → IfErr r (FailsSchedule order left out out')
  unperformed (Ok it) by begun = tt
  unperformed (Err failure) by begun = (by, inr (setup, is, begun))

-- the whole text is a part of itself
begun_all : (strict : Bool) (setup : WorldSetup) (input text : List ℕ) (halt : Option Halt)
    → IsToldAs strict setup input text halt → IsBegunAs strict setup input text
begun_all false setup input text halt h = inl (text, [], h.1, sym (append-nil text))
begun_all true setup input text halt h = inl (halt, text, [], h, sym (append-nil text))

module _ (order : ScheduleOrder) (known out out' : Option (List ℕ)) where
  lines_begun : (setup : WorldSetup) (halt : Option Halt) (text : Option (List ℕ))
      → IfSome text (λ input. Writes out out' (λ lines. IsToldAs order.strict setup input lines halt))
      → IfSome text (λ input. Writes out out' (IsBegunAs order.strict setup input))
  lines_begun setup halt None told = tt
  lines_begun setup halt (Some input) (lines, is, wrote) =
      (lines, begun_all order.strict setup input lines halt is, wrote)

  of_saving : (failure : Failure) → IsOfSaving failure → IsOfDevices failure
  of_saving CommandLine by = by
  of_saving (Policy fault) by = by
  of_saving (Opening refusal) by = by
  of_saving File by = tt
  of_saving Output by = absurd by
  of_saving Socket by = by
  of_saving NoMemory by = tt

  -- it was run, and isn't drawn, or there is no memory for the line on its end
  pub undrawn : (halt : Option Halt) (failure : Failure) → RunsSchedule order known out out' halt → IsOfSaving failure
      → FailsSchedule order known out out' failure
  undrawn halt failure ran by =
      (of_saving failure by, inr (ran.0, ran.1, lines_begun ran.0 halt known ran.3))

  -- what it is concluded by
  concluded : (halt : Option Halt) (end : Conclusion) → RunsSchedule order known out out' halt
      → IsScheduleEnd order.file halt end → EndsSchedule known order out out' (Ok end)
  concluded None end ran is = subst (λ (e : Conclusion). EndsSchedule known order out out' (Ok e)) (sym is) ran
  concluded (Some halt) Done ran is = absurd is
  concluded (Some halt) (Stopped stopped) ran is = (halt, ran, is)
  concluded (Some halt) (Judged verdict) ran is = absurd is
  concluded (Some halt) (Checked end) ran is = absurd is
  concluded (Some halt) Differs ran is = absurd is

  pub ends_schedule : (halt : Option Halt) (r : Result Conclusion Failure) → RunsSchedule order known out out' halt
      → IfOk r (IsScheduleEnd order.file halt) → IfErr r (λ failure. failure ≡ NoMemory)
      → EndsSchedule known order out out' r
  ends_schedule halt (Ok end) ran is why = concluded halt end ran is
  ends_schedule halt (Err failure) ran is why =
      subst (λ (f : Failure). FailsSchedule order known out out' f) (sym why) (undrawn halt NoMemory ran tt)

-- what is drawn of as many lines as were answered, within the same window
pub pictured : {A : Type 0} (r : Result A Failure) (left blank contents : Option (List ℕ)) (window window' : Window)
    (halt : Option Halt) (none lines : ℕ) → none ≡ 0 → window' ≡ window
    → IfSome left (λ input. lines ≡ none + lines_answered input halt)
    → OnOk r ((text : List ℕ) × IsPicture (drawn_of window' lines) text × Appends blank contents text)
    → IfSome left (λ input. OnOk r ((text : List ℕ) × IsPicture (drawn_of window (lines_answered input halt)) text
    × Appends blank contents text))
pictured r None blank contents window window' halt none lines e f g h = tt
pictured r (Some input) blank contents window window' halt none lines e f g h =
    let count : lines ≡ lines_answered input halt = omega (arith, g, e) in
    let all : drawn_of window' lines ≡ drawn_of window (lines_answered input halt) =
    ap (λ (w : Window). drawn_of w lines) f ∙ ap (drawn_of window) count in
    subst (λ (n : ℕ). OnOk r ((text : List ℕ) × IsPicture n text × Appends blank contents text)) all h
