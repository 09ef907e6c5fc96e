-- Files, checked one after the other.
use Rattle.std.proofs.Common.{◌≡◌, ◌∙◌, ◌<◌, ℕ, zero, suc, ◌+◌, List, [], ◌∷◌, ◌++◌, length, map, take, get_or}
use Rattle.std.proofs.Common.{Option, Some, None, option_map, is_some, true, refl, sym, ap, ap₂, subst, arith, inl}
use Rattle.std.proofs.Common.{◌⊎◌, inr, Result, Ok, Err, append-nil, append_assoc}
use Rattle.std.specs.Prelude.{◌&&◌, IfOk, min, slice_get}
use Rattle.std.specs.List.{list_all}
use Rattle.std.specs.Option.{option_map_or}
use Rattle.std.specs.Borrow.{Bor}
use Rattle.std.specs.declared.vec.Vec.{Vec}
use Rattle.std.specs.declared.alloc.Global.{Global}
use Rattle.std.proofs.lemmas.List.{map-append, take_more}
use Rattle.std.proofs.lemmas.Option.{slice_get-map}
use Rattle.ll_rights.specs.declared.limits.TheConstants.{HISTORY_ENTRIES}
use Rattle.ll_seq.specs.declared.call.Call.{Call}
use Rattle.ll_seq.specs.declared.reply.Entry.{Entry}
use Rattle.ll_wire.specs.Pieces.{pieces}
use Rattle.ll_wire.specs.Transcript.{Writes}
use Rattle.ll_wire.proofs.WrittenText.{appends-none}
use Rattle.ll_session.specs.Run.{MayEnd}
use Rattle.ll_session.specs.declared.calls_run.CallReplies.{CallReplies}
use Rattle.ll_session.specs.declared.fault.RunFault.{RunFault}
use Rattle.ll_session.specs.declared.setup.Setup.{Setup}
use Rattle.ll_program.specs.Options.{CheckOrder, checked_tree}
use Rattle.ll_program.specs.declared.checked.Checked.{Checked}
use Rattle.ll_program.specs.declared.checked.Checked.TheVariants.{BadLine}
use Rattle.ll_program.specs.Failure.{failure_of}
use Rattle.ll_program.specs.declared.failure.Failure.{Failure}
use Rattle.ll_program.specs.declared.failure.Failure.TheVariants.{File, NoMemory}
use Rattle.ll_program.specs.Policy.{IsSetBy, IsSetup, Lacks}
use Rattle.ll_check.specs.declared.checks.NamedText.{NamedText}
use Rattle.ll_check.specs.declared.reporter.Style.{Style}
use Rattle.ll_check.specs.declared.reporter.Tally.{Tally}
use Rattle.ll_check.specs.declared.check_text.CheckFault.{CheckFault}
use Rattle.ll_check.specs.declared.check_text.CheckFault.TheVariants as faults
use Rattle.ll_check.specs.declared.check_text.ReadFile.{ReadFile}
use Rattle.ll_check.specs.declared.check_text.Test.{Test}
use Rattle.ll_check.specs.Checks.{IsFirstBad, Tests, has_test, tests_of}
use Rattle.ll_check.specs.Files.{AreChecked, AreTestsChecked, AreTestsIn, AreTestsOf, Concludes, HasBadLine, IsCheck}
use Rattle.ll_check.specs.Files.{HasBegun, IsFileChecked, IsSetFor, IsStopped, MayFail, MayStop, Source, order_for}
use Rattle.ll_check.specs.Files.{policy_for, room_for, source_of, style_of}
use Rattle.ll_check.specs.Report.{IsChecked}

-- ---- files that are read

-- one file more
sections_more : (sources : List Source) (files : List Tests) (source : Source) (own : List Tests)
    → AreTestsIn sources files → AreTestsOf source own → AreTestsIn (sources ++ source ∷ []) (files ++ own)
sections_more [] files source own none is =
    (own, [], ap (λ (x : List Tests). x ++ own) none ∙ sym (append-nil own), is, refl)
sections_more (first ∷ sources) files source own read is =
    let rest = sections_more sources read.1 source own read.4 is in (
      read.0,
      read.1 ++ own,
      ap (λ (x : List Tests). x ++ own) read.2 ∙ append_assoc read.0 read.1 own,
      read.3,
      rest,
    )

-- where the next one is read, the texts before the ones that are left are
pub read_more : (texts : List NamedText) (i : ℕ) (files own all : List ReadFile) (text : NamedText)
    → i < length texts → text ≡ get_or texts i text
    → AreTestsIn (map source_of (take i texts)) (map tests_of files)
    → AreTestsOf (source_of text) (map tests_of own) → all ≡ files ++ own
    → AreTestsIn (map source_of (take (i + 1) texts)) (map tests_of all)
read_more texts i files own all text below is read more same =
    let sources : map source_of (take (i + 1) texts) ≡ map source_of (take i texts) ++ source_of text ∷ [] =
    ap (map source_of) (take_more texts i text below)
    ∙ map-append source_of (take i texts) (get_or texts i text ∷ [])
    ∙ ap (λ (x : NamedText). map source_of (take i texts) ++ source_of x ∷ []) (sym is) in
    let both : map tests_of all ≡ map tests_of files ++ map tests_of own =
    ap (map tests_of) same ∙ map-append tests_of files own in
    subst (λ (x : List Source). AreTestsIn x (map tests_of all)) (sym sources)
    (subst (λ (x : List Tests). AreTestsIn (map source_of (take i texts) ++ source_of text ∷ []) x) (sym both)
    (sections_more (map source_of (take i texts)) (map tests_of files) (source_of text) (map tests_of own) read more))

there : {A : Type 0} (xs : List A) (i : ℕ) {x : A} → i < length xs → x ≡ get_or xs i x → slice_get xs i ≡ Some x
there [] i below is = absurd (omega (arith, below))
there (t ∷ ts) zero below is = ap Some (sym is)
there (t ∷ ts) (suc i) below is = there ts i (omega (arith, below)) is

-- a bad line of a text is one of its source
pub bad_line : (texts : List NamedText) (file line : ℕ) (text : NamedText) (bytes : List ℕ) → file < length texts
    → text ≡ get_or texts file text → bytes ≡ text.text.items → IsFirstBad text.name.now (pieces bytes) line
    → HasBadLine (map source_of texts)
bad_line texts file line text bytes below is all bad = (
  file,
  line,
  source_of text,
  slice_get-map source_of texts file ∙ ap (option_map source_of) (there texts file below is),
  subst (λ (x : List ℕ). IsFirstBad text.name.now (pieces x) line) all bad,
)

-- ---- files that have tests

pub tests_all : (files : List ReadFile)
    → list_all (λ file. has_test (tests_of file)) files ≡ list_all has_test (map tests_of files)
tests_all [] = refl
tests_all (file ∷ files) = ap (λ b. has_test (tests_of file) && b) (tests_all files)

-- ---- files that are checked

pub one_more : (files : List ReadFile) (i : ℕ) (file : ReadFile) → i < length files → file ≡ get_or files i file
    → map tests_of (take (i + 1) files) ≡ map tests_of (take i files) ++ tests_of file ∷ []
one_more files i file below is =
    ap (map tests_of) (take_more files i file below)
    ∙ map-append tests_of (take i files) (get_or files i file ∷ [])
    ∙ ap (λ (x : ReadFile). map tests_of (take i files) ++ tests_of x ∷ []) (sym is)

pub file_checked : (order : CheckOrder) (policy : List ℕ) (policies : List Source) (file : ReadFile) (style : Style)
    (setup : Setup) (name section : List ℕ) (tests : List Test) (made : CallReplies) (entries : List Entry)
    (before after : List ℕ) (tally : Tally) → style ≡ style_of order → name ≡ file.name.now
    → section ≡ file.section.items → tests ≡ file.checks.tests.items
    → IsSetFor order policy policies (tests_of file).own (length tests) setup
    → IsChecked style setup name section tests made entries before after tally
    → AreTestsChecked order policy policies (tests_of file) before after tally
file_checked order policy policies file style setup name section tests made entries before after tally d n s t is
    checked =
    let items : List Test = file.checks.tests.items in (
      setup,
      made,
      entries,
      subst (λ (k : ℕ). IsSetFor order policy policies (tests_of file).own k setup) (ap length t) is,
      subst (λ (x : Style). IsChecked x setup file.name.now file.section.items items made entries before after tally) d
          (subst (λ (x : List ℕ). IsChecked style setup x file.section.items items made entries before after tally) n
          (subst (λ (x : List ℕ). IsChecked style setup name x items made entries before after tally) s
          (subst (λ (x : List Test). IsChecked style setup name section x made entries before after tally) t checked))),
    )

none : Tally
none = record { passed = 0; failed = 0 }

module _ (order : CheckOrder) (policy : List ℕ) (policies : List Source) where
  -- one file more
  pub checked_more : (front : List Tests) (tests : Tests) (before mid after : List ℕ) (sum tally more : Tally)
      → AreChecked order policy policies front before mid sum
      → IsFileChecked order policy policies tests mid after tally
      → more.passed ≡ sum.passed + tally.passed → more.failed ≡ sum.failed + tally.failed
      → AreChecked order policy policies (front ++ tests ∷ []) before after more
  unfolding none
  checked_more [] tests before mid after sum tally more done is p f = (
    after,
    tally,
    none,
    subst (λ (x : List ℕ). IsFileChecked order policy policies tests x after tally) done.0 is,
    (refl, refl, refl),
    omega (arith, p, done.1),
    omega (arith, f, done.2),
  )
  checked_more (first ∷ front) tests before mid after sum tally more done is p f =
      let rest : Tally = done.2 in
      let behind : Tally = record {
        passed = rest.passed + tally.passed;
        failed = rest.failed + tally.failed;
      } in (
        done.0,
        done.1,
        behind,
        done.3,
        checked_more front tests done.0 mid after rest tally behind done.4 is refl refl,
        omega (arith, p, done.5),
        omega (arith, f, done.6),
      )

-- ---- setups

-- room is for the calls of a loader and of a profile
pub same_room : (old new : Setup) (tests : ℕ) → new.loader ≡ old.loader → new.profile ≡ old.profile
    → room_for old tests ≡ room_for new tests
same_room old new tests loader profile = ap₂ (λ (l : Option (Vec Call Global)) (p : Vec Call Global).
    min (option_map_or (λ (calls : Vec Call Global). length calls.items) l 0 + length p.items + tests + 2)
    HISTORY_ENTRIES) (sym loader) (sym profile)

-- the same setup with other room in its history
pub with_room : (order : CheckOrder) (text : List ℕ) (room tests : ℕ) (old new : Setup)
    → IsSetup (checked_tree order room) text old → new.rules ≡ old.rules → new.nodes ≡ old.nodes
    → new.history ≡ room_for old tests → new.loader ≡ old.loader → new.profile ≡ old.profile
    → IsSetup (checked_tree order (room_for new tests)) text new
with_room order text room tests old new is rules nodes history loader profile =
    (nodes ∙ is.0, history ∙ same_room old new tests loader profile, go order.policy is.2)
  where
    go : (file : Option (List ℕ)) → IsSetBy file (checked_tree order room) text old
        → IsSetBy file (checked_tree order (room_for new tests)) text new
    go None by = record {
      rules = rules ∙ by.rules;
      loader = loader ∙ by.loader;
      profile = ap (λ (x : Vec Call Global). x.items) profile ∙ by.profile;
    }
    go (Some file) by = (
      by.0,
      (
        by.1.0,
        by.1.1,
        record {
          rules = rules ∙ by.1.2.rules;
          loader = ap (option_map (λ (x : Vec Call Global). x.items)) loader ∙ by.1.2.loader;
          profile = ap (λ (x : Vec Call Global). Some x.items) profile ∙ by.1.2.profile;
        },
      ),
    )

some_text : (file : Option (Bor (List ℕ))) → is_some file ≡ true → is_some (option_map (λ t. t.now) file) ≡ true
some_text None some = absurd cc
some_text (Some file) some = refl

-- ---- why a section isn't checked

module _ (order : CheckOrder) (policy : List ℕ) (policies : List Source) (file : Tests) where
  -- a policy is named, and it gives no setup
  pub no_setup : (text told : List ℕ) (named : Option (Bor (List ℕ))) (failure end : Failure)
      → Some text ≡ policy_for policy policies file.own
      → (order_for order file.own).policy ≡ option_map (λ t. t.now) named → is_some named ≡ true → told ≡ text
      → Lacks (checked_tree (order_for order file.own) HISTORY_ENTRIES) told failure → (end ≡ File → ⊥)
      → (end ≡ failure) ⊎ (end ≡ NoMemory) → IsStopped order policy policies file end
  no_setup text told named failure end is path some same lacks other (inr none) = inr (inr none)
  no_setup text told named failure end is path some same lacks other (inl e) =
      let tree = checked_tree (order_for order file.own) HISTORY_ENTRIES in
      inr (inl (
        other,
        inl (
          text,
          sym is,
          ap is_some path ∙ some_text named some,
          subst (λ (f : Failure). Lacks tree text f) (sym e) (subst (λ (x : List ℕ). Lacks tree x failure) same lacks),
        ),
      ))

  -- a fault ends the run of its tests
  pub no_run : (tests : ℕ) (setup : Setup) (fault : RunFault) (failure end : Failure)
      → tests ≡ length file.tests → IsSetFor order policy policies file.own tests setup → MayEnd setup fault
      → failure ≡ failure_of fault → (end ≡ File → ⊥) → (end ≡ failure) ⊎ (end ≡ NoMemory)
      → IsStopped order policy policies file end
  no_run tests setup fault failure end count is may by other (inr none) = inr (inr none)
  no_run tests setup fault failure end count is may by other (inl e) = inr (inl (
    other,
    inr (
      setup,
      fault,
      subst (λ (k : ℕ). IsSetFor order policy policies file.own k setup) count is,
      may,
      e ∙ by,
    ),
  ))

-- that stops the check
pub stopped_at : (order : CheckOrder) (policy : List ℕ) (policies : List Source) (files : List ReadFile) (i : ℕ)
    (file : ReadFile) (failure : Failure) → i < length files → file ≡ get_or files i file
    → IsStopped order policy policies (tests_of file) failure
    → MayStop order policy policies (map tests_of files) failure
stopped_at order policy policies files i file failure below is stopped = inl (
  i,
  tests_of file,
  slice_get-map tests_of files i ∙ ap (option_map tests_of) (there files i below is),
  stopped,
)

-- ---- what a check ends with

module _ (order : CheckOrder) (policy : List ℕ) (policies : List Source) (texts : List NamedText)
    (files all : List ReadFile) (read : AreTestsIn (map source_of texts) (map tests_of files)) (same : all ≡ files)
  where
    -- what is concluded of what was read is a check of the texts
    concluding : (end : Checked) (written : List ℕ)
        → Concludes order policy policies (map tests_of all) end written
        → IsCheck order policy policies (map source_of texts) end written
    concluding end written done = inr (
      map tests_of files,
      read,
      subst (λ (x : List ReadFile). Concludes order policy policies (map tests_of x) end written) same done,
    )

    pub concluded : (old new : Option (List ℕ)) (end : Checked)
        → Writes old new (Concludes order policy policies (map tests_of all) end)
        → Writes old new (IsCheck order policy policies (map source_of texts) end)
    concluded old new end done = (done.0, concluding end done.0 done.1, done.2)

    -- so is what was begun of it
    pub begun : (old new : Option (List ℕ)) (failure : Failure)
        → HasBegun (Concludes order policy policies (map tests_of all)) old new failure
        → HasBegun (IsCheck order policy policies (map source_of texts)) old new failure
    begun old new failure (inl none) = inl none
    begun old new failure (inr some) = inr (some.0, some.1, some.2, concluding some.1 some.2 some.3, some.4)

    -- and what stops it
    pub stopped : (failure : Failure) → MayStop order policy policies (map tests_of all) failure
        → MayFail order policy policies (map source_of texts) failure
    stopped failure may = inl (
      map tests_of files,
      read,
      subst (λ (x : List ReadFile). MayStop order policy policies (map tests_of x) failure) same may,
    )

-- where a line of the texts says nothing, nothing is written
pub bad_file : (order : CheckOrder) (policy : List ℕ) (policies : List Source) (texts : List NamedText)
    (fault : CheckFault) (out : Option (List ℕ)) (r : Result Checked Failure)
    → ((line : ℕ) → fault ≡ faults.BadLine line → HasBadLine (map source_of texts))
    → IfOk r (λ end. (end ≡ BadLine) × (line : ℕ) × (fault ≡ faults.BadLine line))
    → IfOk r (λ end. Writes out out (IsCheck order policy policies (map source_of texts) end))
bad_file order policy policies texts fault out (Err failure) bad told = tt
bad_file order policy policies texts fault out (Ok end) bad told =
    ([], inl (bad told.1 told.2, told.0, refl), appends-none out)
