-- Tests of schedules, one after the other.
use Rattle.std.proofs.Common.{◌≡◌, ◌∙◌, ◌↔◌, ◌<◌, ◌≤◌, ℕ, ◌+◌, Bool, true, false, cond, not, List, [], ◌∷◌, ◌++◌}
use Rattle.std.proofs.Common.{length, map, take, get_or, Option, Result, Ok, Err, refl, sym, ap, subst}
use Rattle.std.proofs.Common.{arith, inl, inr}
use Rattle.std.specs.Prelude.{IfErr, IfOk, IsTrue}
use Rattle.std.specs.List.{AllZip}
use Rattle.std.proofs.lemmas.List.{map-append, take_all, take_more}
use Rattle.ll_laws.specs.World.{World}
use Rattle.ll_seq.specs.History.{Log}
use Rattle.ll_seq.specs.declared.reply.Entry.{Entry}
use Rattle.ll_steps.specs.Tells.{Does, answer_line}
use Rattle.ll_steps.specs.Told.{opened}
use Rattle.ll_steps.specs.declared.report.Report.{Report}
use Rattle.ll_steps.specs.declared.setup.WorldSetup.{WorldSetup}
use Rattle.ll_wire.specs.Transcript.{Writes}
use Rattle.ll_wire.proofs.WrittenText.{appends-none}
use Rattle.ll_program.specs.Options.{CheckOrder}
use Rattle.ll_program.specs.declared.checked.Checked.{Checked}
use Rattle.ll_program.specs.declared.checked.Checked.TheVariants.{BadLine}
use Rattle.ll_program.specs.declared.failure.Failure.{Failure}
use Rattle.ll_check.specs.Files.{HasBegun, source_of, style_of}
use Rattle.ll_check.specs.Races.{AreRun, AreStepsRun, ConcludesRaces, IsRaceCheck, IsRaceSetup, IsRun, IsStepMade}
use Rattle.ll_check.specs.Races.{JudgedStep, RunsSteps, judged_step, one_if, shown_step}
use Rattle.ll_check.specs.Outcomes.{Meets}
use Rattle.ll_check.specs.Steps.{HasBadStep, IsStepsOf, StepTests, steps_of}
use Rattle.ll_check.specs.declared.checks.NamedText.{NamedText}
use Rattle.ll_check.specs.declared.reporter.Style.{Style}
use Rattle.ll_check.specs.declared.reporter.Tally.{Tally}
use Rattle.ll_check.specs.declared.check_text.CheckFault.{CheckFault}
use Rattle.ll_check.specs.declared.check_text.CheckFault.TheVariants as faults
use Rattle.ll_check.specs.declared.steps.StepFile.{StepFile}
use Rattle.ll_check.specs.declared.steps.StepTest.{StepTest}

none : Tally
none = record { passed = 0; failed = 0 }

-- ---- a schedule

if_not : (b : Bool) → one_if (not b) ≡ cond b 0 1
if_not true = refl
if_not false = refl

module _ (style : Style) (file : List ℕ) where
  -- one test more
  runs_more : (front : List StepTest) (test : StepTest) (it : JudgedStep) (w v w' : World)
      (before mid after : List ℕ) (sum more : Tally) → RunsSteps style file w front before mid sum v
      → it.test ≡ test → IsStepMade v it w' → after ≡ mid ++ shown_step style file it
      → more.passed ≡ sum.passed + one_if it.passes → more.failed ≡ sum.failed + one_if (not it.passes)
      → RunsSteps style file w (front ++ test ∷ []) before after more w'
  unfolding none
  runs_more [] test it w v w' before mid after sum more done of made told p f = (
    it,
    w',
    none,
    of,
    subst (λ (x : World). IsStepMade x it w') done.3 made,
    (told ∙ ap (λ (x : List ℕ). x ++ shown_step style file it) done.0, refl, refl, refl),
    omega (arith, p, done.1),
    omega (arith, f, done.2),
  )
  runs_more (first ∷ front) test it w v w' before mid after sum more done of made told p f =
      let rest : Tally = done.2 in
      let behind : Tally = record {
        passed = rest.passed + one_if it.passes;
        failed = rest.failed + one_if (not it.passes);
      } in (
        done.0,
        done.1,
        behind,
        done.3,
        done.4,
        runs_more front test it done.1 v w' _ mid after rest behind done.5 of made told refl refl,
        omega (arith, p, done.6),
        omega (arith, f, done.7),
      )

  -- the next test
  pub next_runs : (tests : List StepTest) (i : ℕ) (test : StepTest) (it : JudgedStep) (passes : Bool) (w v w' : World)
      (before mid after : List ℕ) (sum more : Tally) → i < length tests → test ≡ get_or tests i test
      → RunsSteps style file w (take i tests) before mid sum v → it.test ≡ test → it.passes ≡ passes
      → IsStepMade v it w' → after ≡ mid ++ shown_step style file it
      → more.passed ≡ sum.passed + cond passes 1 0 → more.failed ≡ sum.failed + cond passes 0 1
      → RunsSteps style file w (take (i + 1) tests) before after more w'
  next_runs tests i test it passes w v w' before mid after sum more below is done of same made told p f =
      subst (λ (x : List StepTest). RunsSteps style file w x before after more w') (sym (take_more tests i test below))
      (subst (λ (x : StepTest). RunsSteps style file w (take i tests ++ x ∷ []) before after more w') is
      (runs_more (take i tests) test it w v w' before mid after sum more done of made told
      (p ∙ ap (λ (b : Bool). sum.passed + cond b 1 0) (sym same))
      (f ∙ ap (λ (b : Bool). sum.failed + cond b 0 1) (sym same)
      ∙ ap (λ (n : ℕ). sum.failed + n) (sym (if_not it.passes)))))

  pub all_run : (tests : List StepTest) (n : ℕ) (w w' : World) (before after : List ℕ) (tally : Tally)
      → length tests ≤ n → RunsSteps style file w (take n tests) before after tally w'
      → RunsSteps style file w tests before after tally w'
  all_run tests n w w' before after tally long h =
      subst (λ (x : List StepTest). RunsSteps style file w x before after tally w') (take_all n tests long) h

-- a test is made, and shown
pub step_judged : (style : Style) (file : List ℕ) (test : StepTest) (w w' : World) (report : Report)
    (log : Log) (history : List Entry) (got bytes : List ℕ) (passes : Bool) (before after : List ℕ)
    → Does w test.step report w' → log ≡ record { entries = w'.history; limit = w'.limit } → history ≡ log.entries
    → IsTrue passes ↔ Meets history test.wanted report → got ≡ answer_line history (Ok report) → bytes ≡ got
    → after ≡ before ++ shown_step style file (judged_step test bytes passes)
    → (it : JudgedStep) × (it.test ≡ test) × (it.passes ≡ passes) × IsStepMade w it w'
    × (after ≡ before ++ shown_step style file it)
step_judged style file test w w' report log history got bytes passes before after made is entries meets told same out =
    let there : history ≡ w'.history = entries ∙ ap (λ (l : Log). l.entries) is in (
      judged_step test bytes passes,
      refl,
      refl,
      (
        report,
        made,
        same ∙ told ∙ ap (λ (h : List Entry). answer_line h (Ok report)) there,
        subst (λ (h : List Entry). IsTrue passes ↔ Meets h test.wanted report) there meets,
      ),
      out,
    )

-- a schedule in its tree
pub file_run : (order : CheckOrder) (file : StepFile) (style : Style) (setup : WorldSetup) (name : List ℕ)
    (tests : List StepTest) (w last : World) (before after : List ℕ) (tally : Tally) → style ≡ style_of order
    → name ≡ file.name.now → tests ≡ file.tests.items → IsRaceSetup order (length tests) setup → w ≡ opened setup
    → RunsSteps style name w tests before after tally last → AreStepsRun order (steps_of file) before after tally
file_run order file style setup name tests w last before after tally s n t is new runs = (
  setup,
  last,
  subst (λ (k : ℕ). IsRaceSetup order k setup) (ap length t) is,
  subst (λ (x : Style). RunsSteps x file.name.now (opened setup) file.tests.items before after tally last) s
      (subst (λ (x : List ℕ). RunsSteps style x (opened setup) file.tests.items before after tally last) n
      (subst (λ (x : World). RunsSteps style name x file.tests.items before after tally last) new
      (subst (λ (x : List StepTest). RunsSteps style name w x before after tally last) t runs))),
)

-- ---- all schedules

-- one schedule more
run_more : (order : CheckOrder) (front : List StepTests) (tests : StepTests) (before mid after : List ℕ)
    (sum tally more : Tally) → AreRun order front before mid sum → IsRun order tests mid after tally
    → more.passed ≡ sum.passed + tally.passed → more.failed ≡ sum.failed + tally.failed
    → AreRun order (front ++ tests ∷ []) before after more
unfolding none
run_more order [] tests before mid after sum tally more done is p f = (
  after,
  tally,
  none,
  subst (λ (x : List ℕ). IsRun order tests x after tally) done.0 is,
  (refl, refl, refl),
  omega (arith, p, done.1),
  omega (arith, f, done.2),
)
run_more order (first ∷ front) tests before mid after sum tally more done is p f =
    let rest : Tally = done.2 in
    let behind : Tally = record {
      passed = rest.passed + tally.passed;
      failed = rest.failed + tally.failed;
    } in (
      done.0,
      done.1,
      behind,
      done.3,
      run_more order front tests done.0 mid after rest tally behind done.4 is refl refl,
      omega (arith, p, done.5),
      omega (arith, f, done.6),
    )

pub next_run : (order : CheckOrder) (files : List StepFile) (i : ℕ) (file : StepFile) (before mid after : List ℕ)
    (sum tally more : Tally) → i < length files → file ≡ get_or files i file
    → AreRun order (map steps_of (take i files)) before mid sum → IsRun order (steps_of file) mid after tally
    → more.passed ≡ sum.passed + tally.passed → more.failed ≡ sum.failed + tally.failed
    → AreRun order (map steps_of (take (i + 1) files)) before after more
next_run order files i file before mid after sum tally more below is done one p f =
    let all : map steps_of (take (i + 1) files) ≡ map steps_of (take i files) ++ steps_of file ∷ [] =
    ap (map steps_of) (take_more files i file below) ∙ map-append steps_of (take i files) (get_or files i file ∷ [])
    ∙ ap (λ (x : StepFile). map steps_of (take i files) ++ steps_of x ∷ []) (sym is) in
    subst (λ (x : List StepTests). AreRun order x before after more) (sym all)
    (run_more order (map steps_of (take i files)) (steps_of file) before mid after sum tally more done one p f)

-- ---- what a check ends with

-- what is concluded of what was read is a check of the texts
pub concluded : (order : CheckOrder) (texts : List NamedText) (files all : List StepFile)
    (old new : Option (List ℕ)) (r : Result Checked Failure)
    → AllZip IsStepsOf (map source_of texts) (map steps_of files) → all ≡ files
    → IfOk r (λ end. Writes old new (ConcludesRaces order (map steps_of all) end))
    → IfOk r (λ end. Writes old new (IsRaceCheck order (map source_of texts) end))
concluded order texts files all old new (Err failure) read same done = tt
concluded order texts files all old new (Ok end) read same done = (
  done.0,
  inr (
    map steps_of files,
    read,
    subst (λ (x : List StepFile). ConcludesRaces order (map steps_of x) end done.0) same done.1,
  ),
  done.2,
)

-- so is what was begun of it
pub begun : (order : CheckOrder) (texts : List NamedText) (files all : List StepFile)
    (old new : Option (List ℕ)) (r : Result Checked Failure)
    → AllZip IsStepsOf (map source_of texts) (map steps_of files) → all ≡ files
    → IfErr r (HasBegun (ConcludesRaces order (map steps_of all)) old new)
    → IfErr r (HasBegun (IsRaceCheck order (map source_of texts)) old new)
begun order texts files all old new (Ok end) read same h = tt
begun order texts files all old new (Err failure) read same (inl nothing) = inl nothing
begun order texts files all old new (Err failure) read same (inr some) =
    let told = inr (
      map steps_of files,
      read,
      subst (λ (x : List StepFile). ConcludesRaces order (map steps_of x) some.1 some.2) same some.3,
    ) in
    inr (some.0, some.1, some.2, told, some.4)

-- where a line of the texts says nothing, nothing is written
pub bad_file : (order : CheckOrder) (texts : List NamedText) (fault : CheckFault)
    (out : Option (List ℕ)) (r : Result Checked Failure)
    → ((line : ℕ) → fault ≡ faults.BadLine line → HasBadStep (map source_of texts))
    → IfOk r (λ end. (end ≡ BadLine) × (line : ℕ) × (fault ≡ faults.BadLine line))
    → IfOk r (λ end. Writes out out (IsRaceCheck order (map source_of texts) end))
bad_file order texts fault out (Err failure) bad told = tt
bad_file order texts fault out (Ok end) bad told =
    ([], inl (bad told.1 told.2, told.0, refl), appends-none out)
