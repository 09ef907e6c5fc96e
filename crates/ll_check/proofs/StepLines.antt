-- The tests of schedules, line by line and file by file.
use Rattle.std.proofs.Common.{◌≡◌, ◌∙◌, inl, inr, ℕ, ◌+◌, ◌<◌, ◌≤◌, List, [], ◌∷◌, ◌++◌, length, take, drop, append-nil}
use Rattle.std.proofs.Common.{append_assoc, refl, sym, ap, subst, codes, arith, Bool, true, false, eqb, map, get_or}
use Rattle.std.proofs.Common.{Option, Some, None, Result, Ok, Err, option_map, zero, suc}
use Rattle.std.specs.Prelude.{IfNone, IfOk, IfSome, slice_get}
use Rattle.std.specs.List.{AllZip}
use Rattle.std.proofs.lemmas.Bool.{eqb-true, eqb-false}
use Rattle.std.proofs.lemmas.List.{append_cancel_left, length-append, map-append, take-append-drop, take_more}
use Rattle.std.proofs.lemmas.Option.{slice_get-map}
use Rattle.std.proofs.Math.Seq.{take-append_seam, drop-append_seam}
use Rattle.ll_rights.specs.declared.limits.TheConstants.{TREE_CLIENTS}
use Rattle.ll_wire.specs.Grammar.{IsClient}
use Rattle.ll_wire.specs.Pieces.{pieces}
use Rattle.ll_wire.specs.ScheduleLines.{SpellsScheduleLine, client_in}
use Rattle.ll_wire.specs.declared.schedule.ScheduleLine.{ScheduleLine}
use Rattle.ll_program.specs.Comments.{body_of, is_silent}
use Rattle.ll_check.specs.Files.{Source, source_of}
use Rattle.ll_check.specs.Outcomes.{SpellsOutcome, outcome_text}
use Rattle.ll_check.specs.Steps.{AreSteps, GivesSteps, HasBadStep, IsFirstBadStep, IsStepsOf, SaysNoStep, SpellsStep}
use Rattle.ll_check.specs.Steps.{IsToldTest, SpellsStepAt, SpellsStepTest, StepTests, steps_of}
use Rattle.ll_check.specs.declared.checks.NamedText.{NamedText}
use Rattle.ll_check.specs.declared.outcomes.WantedOutcome.{WantedOutcome}
use Rattle.ll_check.specs.declared.outcomes.WantedOutcome.TheVariants.{Made}
use Rattle.ll_check.specs.declared.steps.StepFile.{StepFile}
use Rattle.ll_check.specs.declared.steps.StepTest.{StepTest}
use Rattle.ll_check.proofs.Told.{each_more}

-- ---- steps

of_tree : (client : Option ℕ) → IfSome client IsClient → IfSome client (λ c. c ≤ TREE_CLIENTS)
of_tree None is = tt
of_tree (Some client) is = is.1

pub spells_no_step : (text line : List ℕ) → line ≡ text ++ 10 ∷ []
    → ((v : ScheduleLine) → SpellsScheduleLine line v × IfSome (client_in v) (λ client. client ≤ TREE_CLIENTS) → ⊥)
    → (step' : ScheduleLine) → SpellsStep text step' → ⊥
spells_no_step text line e none step' is =
    none step' (subst (λ (l : List ℕ). SpellsScheduleLine l step') (sym e) is, of_tree (client_in step') is.is_line.0)

pub spells_step : (text line : List ℕ) (step' : ScheduleLine) → line ≡ text ++ 10 ∷ []
    → SpellsScheduleLine line step' → SpellsStep text step'
spells_step text line step' e is = subst (λ (l : List ℕ). SpellsScheduleLine l step') e is

-- ---- tests

pub told_by : (line : ℕ) (text told : List ℕ) (test : StepTest) (step' : ScheduleLine) (wanted : WantedOutcome)
    → test.line ≡ line → test.step ≡ step' → test.wanted ≡ wanted → test.text.items ≡ text → test.told.items ≡ told
    → SpellsOutcome told wanted → SpellsStep text step' → IsToldTest line text told test
told_by line text told test step' wanted l s w t u wants is =
    (subst (SpellsStep text) (sym s) is, subst (SpellsOutcome told) (sym w) wants, t, u, l)

-- what is found at a place is a test
pub spelled_step_at : (body text rest told : List ℕ) (line place : ℕ) (test : StepTest)
    → text ≡ take place body → rest ≡ drop place body → rest ≡ codes " = " ++ told
    → IsToldTest line text told test → SpellsStepTest body test × (test.line ≡ line)
spelled_step_at body text rest told line place test t r e is =
    let whole : body ≡ text ++ (codes " = " ++ told) =
    sym (take-append-drop place body) ∙ ap (λ (x : List ℕ). x ++ drop place body) (sym t)
    ∙ ap (λ (x : List ℕ). text ++ x) (sym r ∙ e) in (
      (
        subst (λ (x : List ℕ). SpellsStep x test.step) (sym is.2) is.0,
        inr (
          whole ∙ ap (λ (x : List ℕ). x ++ (codes " = " ++ told)) (sym is.2)
              ∙ ap (λ (x : List ℕ). test.text.items ++ (codes " = " ++ x)) (sym is.3),
          subst (λ (x : List ℕ). SpellsOutcome x test.wanted) (sym is.3) is.1,
        ),
      ),
      is.4,
    )

-- a step alone is one
pub alone : (body told : List ℕ) (test : StepTest) (step' : ScheduleLine) → SpellsStep body step'
    → told ≡ outcome_text Made → test.text.items ≡ body → test.told.items ≡ told → test.step ≡ step'
    → test.wanted ≡ Made → SpellsStepTest body test
alone body told test step' is made same out s w = (
  subst (SpellsStep test.text.items) (sym s) (subst (λ (x : List ℕ). SpellsStep x step') (sym same) is),
  inl (sym same, w, out ∙ made),
)

-- a test that has something behind its step is found where that ends
found_there : (body : List ℕ) (test : StepTest) → SpellsStep test.text.items test.step
    → body ≡ test.text.items ++ (codes " = " ++ test.told.items) → SpellsOutcome test.told.items test.wanted
    → (length test.text.items < length body) × SpellsStepAt body (length test.text.items) test
found_there body test is cut wants =
    let text : List ℕ = test.text.items in
    let more : List ℕ = codes " = " ++ test.told.items in
    let long : length body ≡ length text + length more = ap length cut ∙ length-append text more in
    let front : take (length text) body ≡ text = ap (take (length text)) cut ∙ take-append_seam text more in
    let back : drop (length text) body ≡ more = ap (drop (length text)) cut ∙ drop-append_seam text more in
    (omega (arith, long), (is, sym front, back, wants))

-- at this place neither
pub none_more : (P : ℕ → StepTest → Type 0) (n : ℕ) → ((k : ℕ) (test : StepTest) → k < n → P k test → ⊥)
    → ((test : StepTest) → P n test → ⊥) → (k : ℕ) (test : StepTest) → k < n + 1 → P k test → ⊥
none_more P n before here k test below is = go (eqb k n) refl
  where
    go : (b : Bool) → eqb k n ≡ b → ⊥
    go true e = here test (subst (λ (m : ℕ). P m test) (eqb-true k n e) is)
    go false e = let other = eqb-false k n e in before k test (omega (arith, below, other)) is

pub no_step_test : (body : List ℕ) → ((step' : ScheduleLine) → SpellsStep body step' → ⊥)
    → ((place : ℕ) (test : StepTest) → place < length body → SpellsStepAt body place test → ⊥) → (test : StepTest)
    → SpellsStepTest body test → ⊥
no_step_test body unlike none test (is, inl one) =
    unlike test.step (subst (λ (x : List ℕ). SpellsStep x test.step) (sym one.0) is)
no_step_test body unlike none test (is, inr followed) =
    let there = found_there body test is followed.0 followed.1 in none (length test.text.items) test there.0 there.1

-- ---- what isn't found at a place

pub no_sign : (body rest : List ℕ) (place : ℕ) → rest ≡ drop place body
    → ((text : List ℕ) → rest ≡ codes " = " ++ text → ⊥) → (test : StepTest) → SpellsStepAt body place test → ⊥
no_sign body rest place e none test at = none test.told.items (e ∙ at.2)

pub no_test_at : (body text rest told : List ℕ) (place : ℕ) → text ≡ take place body → rest ≡ drop place body
    → rest ≡ codes " = " ++ told
    → ((step' : ScheduleLine) (wanted : WantedOutcome) → SpellsStep text step' → SpellsOutcome told wanted → ⊥)
    → (test : StepTest) → SpellsStepAt body place test → ⊥
no_test_at body text rest told place t r e none test at =
    none test.step test.wanted (subst (λ (x : List ℕ). SpellsStep x test.step) (at.1 ∙ sym t) at.0)
    (subst (λ (x : List ℕ). SpellsOutcome x test.wanted)
    (append_cancel_left (codes " = ") test.told.items told (sym at.2 ∙ sym r ∙ e)) at.3)

pub none_carried : {T E A B : Type 0} (r : Result (Option T) E) → (A → B) → IfOk r (λ found. IfNone found A)
    → IfOk r (λ found. IfNone found B)
none_carried (Ok None) go h = go h
none_carried (Ok (Some t)) go h = tt
none_carried (Err e) go h = tt

-- ---- what a line adds

pub silent_given : (line body : List ℕ) (number : ℕ) (tests : List StepTest) → body ≡ body_of line
    → true ≡ is_silent body → (own : List StepTest) × (tests ≡ tests ++ own) × GivesSteps line number own
silent_given line body number tests e is = ([], sym (append-nil tests), inl (sym (is ∙ ap is_silent e), refl))

pub test_given : (line body : List ℕ) (number : ℕ) (before after : List StepTest) (test : StepTest)
    → body ≡ body_of line → SpellsStepTest body test × (test.line ≡ number) → after ≡ before ++ test ∷ []
    → (own : List StepTest) × (after ≡ before ++ own) × GivesSteps line number own
test_given line body number before after test e is more =
    (test ∷ [], more, inr (test, subst (λ (b : List ℕ). SpellsStepTest b test) e is.0, is.1, refl))

pub says_no_step : (line body : List ℕ) → body ≡ body_of line → false ≡ is_silent body
    → ((test : StepTest) → SpellsStepTest body test → ⊥) → SaysNoStep line
says_no_step line body e silent none = (
  sym (silent ∙ ap is_silent e),
  λ test is. none test (subst (λ (b : List ℕ). SpellsStepTest b test) (sym e) is),
)

-- one line more
pub steps_more : (number : ℕ) (front : List (List ℕ)) (line : List ℕ) (at : ℕ) (before own : List StepTest)
    → AreSteps number front before → at ≡ number + length front → GivesSteps line at own
    → AreSteps number (front ++ line ∷ []) (before ++ own)
steps_more number [] line at before own none place is =
    let here : at ≡ number = omega (arith, place) in (
      own,
      [],
      ap (λ (x : List StepTest). x ++ own) none ∙ sym (append-nil own),
      subst (λ (n : ℕ). GivesSteps line n own) here is,
      refl,
    )
steps_more number (first ∷ front) line at before own told place is = (
  told.0,
  told.1 ++ own,
  ap (λ (x : List StepTest). x ++ own) told.2 ∙ append_assoc told.0 told.1 own,
  told.3,
  steps_more (number + 1) front line at told.1 own told.4 (omega (arith, place)) is,
)

-- ---- files

-- where the next one is read, the texts before the ones that are left are
pub files_more : (texts : List NamedText) (i : ℕ) (files all : List StepFile) (file : StepFile) (text : NamedText)
    → i < length texts → text ≡ get_or texts i text
    → AllZip IsStepsOf (map source_of (take i texts)) (map steps_of files)
    → IsStepsOf (source_of text) (steps_of file) → all ≡ files ++ file ∷ []
    → AllZip IsStepsOf (map source_of (take (i + 1) texts)) (map steps_of all)
files_more texts i files all file text below is read more same =
    let sources : map source_of (take (i + 1) texts) ≡ map source_of (take i texts) ++ source_of text ∷ [] =
    ap (map source_of) (take_more texts i text below)
    ∙ map-append source_of (take i texts) (get_or texts i text ∷ [])
    ∙ ap (λ (x : NamedText). map source_of (take i texts) ++ source_of x ∷ []) (sym is) in
    let both : map steps_of all ≡ map steps_of files ++ steps_of file ∷ [] =
    ap (map steps_of) same ∙ map-append steps_of files (file ∷ []) in
    subst (λ (x : List Source). AllZip IsStepsOf x (map steps_of all)) (sym sources)
    (subst (λ (x : List StepTests). AllZip IsStepsOf (map source_of (take i texts) ++ source_of text ∷ []) x) (sym both)
    (each_more IsStepsOf (map source_of (take i texts)) (map steps_of files) (source_of text) (steps_of file) read
    more))

-- a bad line of a text is one of its source
pub bad_step : (texts : List NamedText) (file line : ℕ) (text : NamedText) (bytes : List ℕ) → file < length texts
    → text ≡ get_or texts file text → bytes ≡ text.text.items → IsFirstBadStep (pieces bytes) line
    → HasBadStep (map source_of texts)
bad_step texts file line text bytes below is all bad = (
  file,
  line,
  source_of text,
  slice_get-map source_of texts file ∙ ap (option_map source_of) (there texts file below is),
  subst (λ (x : List ℕ). IsFirstBadStep (pieces x) line) all bad,
)
  where
    there : (texts : List NamedText) (file : ℕ) → file < length texts → text ≡ get_or texts file text
        → slice_get texts file ≡ Some text
    there [] file below is = absurd (omega (arith, below))
    there (t ∷ ts) zero below is = ap Some (sym is)
    there (t ∷ ts) (suc file) below is = there ts file (omega (arith, below)) is
