-- What lessons teach, and how learning ends.
use Rattle.std.proofs.Common.{◌≡◌, ℕ, List, map, Option, Some, None, Result, Ok, Err, refl, sym, subst, inl, inr, ◌⊎◌}
use Rattle.std.proofs.Common.{◌∙◌, Bool, false, true, ap}
use Rattle.std.specs.Prelude.{◌||◌, [], ◌∷◌, IfErr, IfNone, IfOk, IfSome}
use Rattle.std.specs.Io.KnownBytes.{Appends}
use Rattle.std.specs.List.{list_all, list_any}
use Rattle.ll_seq.specs.declared.reply.Entry.{Entry}
use Rattle.ll_audit.specs.Saved.{opened}
use Rattle.ll_learn.specs.declared.fault.Unlearned.{Unlearned}
use Rattle.ll_learn.specs.declared.fault.Unlearned.TheVariants.{NoNode}
use Rattle.ll_learn.specs.declared.learned.Aim.{Aim}
use Rattle.ll_learn.specs.declared.profile.LearnedProfile.{LearnedProfile}
use Rattle.ll_learn.specs.Learned.{IsLearned, IsUnlearned}
use Rattle.ll_wire.specs.WriterGains.{AppendsFront}
use Rattle.ll_wire.specs.declared.header.Header.{Header}
use Rattle.ll_program.specs.Options.{LearnOrder}
use Rattle.ll_program.specs.Policy.{header_of}
use Rattle.ll_program.specs.declared.checked.Checked.{Checked}
use Rattle.ll_program.specs.declared.checked.Checked.TheVariants.{BadLine, Failed, Passed}
use Rattle.ll_program.specs.Learn.{HasWrongWord}
use Rattle.ll_program.specs.declared.failure.Failure.{Failure}
use Rattle.ll_program.specs.declared.failure.Failure.TheVariants.{CommandLine, NoMemory, Output}
use Rattle.ll_check.specs.declared.checks.NamedText.{NamedText}
use Rattle.ll_check.specs.declared.check_text.ReadFile.{ReadFile}
use Rattle.ll_check.specs.declared.check_text.CheckFault.{CheckFault}
use Rattle.ll_check.specs.declared.check_text.CheckFault.TheVariants as faults
use Rattle.ll_check.specs.Checks.{Tests, has_own, has_test, tests_of}
use Rattle.ll_check.specs.Files.{AreTestsIn, HasBadLine, Source, source_of}
use Rattle.ll_check.specs.Lessons.{AreLessonsIn, Course, EndsLessons, FailsToLearn, IsHindered}
use Rattle.ll_check.specs.Lessons.{IsProfile, IsTaughtBy, TeachNothing, is_of_lessons, lessons_of}

-- ---- what is learned

module _ (order : LearnOrder) (policy : List ℕ) (lessons : List Tests) (c : Course order policy lessons)
    (header : Header) (histories : List (List Entry)) (aim : Aim) (h : header ≡ header_of c.blank)
    (e : histories ≡ c.histories) (a : aim ≡ c.aim) where
  is_learned : (profile : LearnedProfile) → IsLearned (opened header) histories aim profile
      → IsLearned (opened (header_of c.blank)) c.histories c.aim profile
  is_learned profile is =
      subst (λ (x : Header). IsLearned (opened x) c.histories c.aim profile) h
      (subst (λ (x : List (List Entry)). IsLearned (opened header) x c.aim profile) e
      (subst (λ (x : Aim). IsLearned (opened header) histories x profile) a is))

  is_unlearned : (why : Unlearned) → IsUnlearned (opened header) histories aim why
      → IsUnlearned (opened (header_of c.blank)) c.histories c.aim why
  is_unlearned why is =
      subst (λ (x : Header). IsUnlearned (opened x) c.histories c.aim why) h
      (subst (λ (x : List (List Entry)). IsUnlearned (opened header) x c.aim why) e
      (subst (λ (x : Aim). IsUnlearned (opened header) histories x why) a is))

  pub taught_so : (r : Result (Option LearnedProfile) Failure)
      → IfOk r (λ found. IfSome found (IsLearned (opened header) histories aim))
      → IfOk r (λ found. IfSome found (IsTaughtBy order policy lessons))
  taught_so (Err failure) is = tt
  taught_so (Ok None) is = tt
  taught_so (Ok (Some profile)) is = (c, is_learned profile is)

  pub untaught_so : (r : Result (Option LearnedProfile) Failure)
      → IfErr r (λ failure. ((failure ≡ CommandLine) × (path : ℕ)
      × IsUnlearned (opened header) histories aim (NoNode path)) ⊎ (failure ≡ NoMemory))
      → IfErr r (FailsToLearn order policy lessons)
  untaught_so (Ok found) is = tt
  untaught_so (Err failure) (inl is) = inl (is.0, inl (c, is.1, is_unlearned (NoNode is.1) is.2))
  untaught_so (Err failure) (inr is) = inr (inr (inr is))

  pub nothing_so : (r : Result (Option LearnedProfile) Failure)
      → IfOk r (λ found. IfNone found ((why : Unlearned) × (is_of_lessons why ≡ true)
      × IsUnlearned (opened header) histories aim why))
      → IfOk r (λ found. IfNone found (TeachNothing order policy lessons))
  nothing_so (Err failure) is = tt
  nothing_so (Ok (Some profile)) is = tt
  nothing_so (Ok None) is = inr (c, is.0, is.1, is_unlearned is.0 is.2)

-- ---- policies that sections name

pub own_any : (files : List ReadFile)
    → list_any (λ file. has_own (tests_of file)) files ≡ list_any has_own (map tests_of files)
own_any [] = refl
own_any (file ∷ files) = ap (λ b. has_own (tests_of file) || b) (own_any files)

pub are_lessons : (texts : List NamedText) (files all : List ReadFile) (own : Bool)
    → AreTestsIn (map source_of texts) (map tests_of files) → all ≡ files
    → own ≡ list_any has_own (map tests_of all) → own ≡ false
    → AreLessonsIn (map source_of texts) (map tests_of files)
are_lessons texts files all own read same so none =
    (read, ap (λ (x : List ReadFile). list_any has_own (map tests_of x)) (sym same) ∙ sym so ∙ none)

-- ---- how it ends

module _ (order : LearnOrder) (policy : List ℕ) (out : Option (List ℕ)) where
  pub wrong_words : (sources : List Source) (failure : Failure)
      → ((failure ≡ CommandLine) × HasWrongWord order) ⊎ (failure ≡ NoMemory)
      → EndsLessons order policy sources out out (Err failure)
  wrong_words sources failure (inl wrong) = inl (inl wrong, refl)
  wrong_words sources failure (inr wanting) = inl (inr (inr wanting), refl)

  pub bad_told : (texts : List NamedText) (fault : CheckFault) (r : Result Checked Failure)
      → ((line : ℕ) → fault ≡ faults.BadLine line → HasBadLine (map source_of texts))
      → IfOk r (λ end. (end ≡ BadLine) × (line : ℕ) × (fault ≡ faults.BadLine line))
      → IfErr r (λ failure. failure ≡ NoMemory) → EndsLessons order policy (map source_of texts) out out r
  bad_told texts fault (Ok end) bad told wanting =
      subst (λ (x : Checked). EndsLessons order policy (map source_of texts) out out (Ok x)) (sym told.0)
      (inl (bad told.1 told.2), refl)
  bad_told texts fault (Err failure) bad told wanting = inl (inr (inr wanting), refl)

  pub named_own : (texts : List NamedText) (files all : List ReadFile) (own : Bool)
      → AreTestsIn (map source_of texts) (map tests_of files) → all ≡ files
      → own ≡ list_any has_own (map tests_of all) → own ≡ true
      → EndsLessons order policy (map source_of texts) out out (Ok BadLine)
  named_own texts files all own read same so some = (
    inr (
      map tests_of files,
      read,
      ap (λ (x : List ReadFile). list_any has_own (map tests_of x)) (sym same) ∙ sym so ∙ some,
    ),
    refl,
  )

  module _ (texts : List NamedText) (files all : List ReadFile)
      (read : AreLessonsIn (map source_of texts) (map tests_of files)) (same : all ≡ files) where
    pub not_taught : (failure : Failure) → FailsToLearn order policy (map lessons_of (map tests_of all)) failure
        → EndsLessons order policy (map source_of texts) out out (Err failure)
    not_taught failure fails = inl (
      inr (inl (
        map tests_of files,
        read,
        subst (λ (x : List ReadFile). FailsToLearn order policy (map lessons_of (map tests_of x)) failure) same fails,
      )),
      refl,
    )

    pub hindered : IsHindered order policy (map tests_of all)
        → EndsLessons order policy (map source_of texts) out out (Ok Failed)
    hindered is = (
      map tests_of files,
      read,
      subst (λ (x : List ReadFile). IsHindered order policy (map tests_of x)) same is,
      refl,
    )

    pub untested : (tested : Bool) → tested ≡ list_all has_test (map tests_of all) → tested ≡ false
        → EndsLessons order policy (map source_of texts) out out (Ok Failed)
    untested tested so none = hindered (inl (sym so ∙ none))

    pub written : (text : List ℕ) (out' : Option (List ℕ)) → IsProfile order policy (map tests_of all) text
        → Appends out out' text → EndsLessons order policy (map source_of texts) out out' (Ok Passed)
    written text out' is wrote = (
      map tests_of files,
      read,
      (text, subst (λ (x : List ReadFile). IsProfile order policy (map tests_of x) text) same is, wrote),
    )

    pub cut_short : (text : List ℕ) (out' : Option (List ℕ)) → IsProfile order policy (map tests_of all) text
        → AppendsFront out out' text → EndsLessons order policy (map source_of texts) out out' (Err Output)
    cut_short text out' is wrote = inr (
      refl,
      map tests_of files,
      read,
      text,
      subst (λ (x : List ReadFile). IsProfile order policy (map tests_of x) text) same is,
      wrote,
    )
