-- What a check under the exported profile tells of each section.
use Rattle.std.proofs.Common.{◌≡◌, ◌∙◌, ℕ, ◌+◌, Bool, true, false, cond, not, List, [], ◌∷◌, length, map, Option, Some}
use Rattle.std.proofs.Common.{None, refl, sym, ap, subst, arith, eqb, inl, inr}
use Rattle.std.specs.Prelude.{if◌then◌else◌}
use Rattle.std.specs.List.{AllByRecursion, AllZip}
use Rattle.std.proofs.lemmas.Bool.{eqb-true}
use Rattle.std.proofs.lemmas.List.Sums.{sum_by-cons}
use Rattle.ll_seq.specs.declared.reply.Reply.{Reply}
use Rattle.ll_session.specs.CallsRun.{Makes}
use Rattle.ll_session.specs.declared.calls_run.CallReplies.{CallReplies}
use Rattle.ll_session.specs.declared.calls_run.CallReplies.TheVariants.{Answered, Refused}
use Rattle.ll_session.specs.declared.setup.Setup.{Setup}
use Rattle.ll_program.specs.Options.{ExportOrder, checked_tree}
use Rattle.ll_program.specs.Policy.{IsSetup}
use Rattle.ll_program.specs.declared.checked.Checked.TheVariants.{Failed, Passed}
use Rattle.ll_check.specs.declared.check_text.Test.{Test}
use Rattle.ll_check.specs.declared.reporter.Tally.{Tally}
use Rattle.ll_check.specs.Checks.{Own, Tests, has_test}
use Rattle.ll_check.specs.Files.{AreChecked, AreTestsChecked, AreTestsIn, Concludes, IsCheck, IsFileChecked, IsSetFor}
use Rattle.ll_check.specs.Files.{Source, end_of, room_for, style_of}
use Rattle.ll_check.specs.Report.{CountsUntested, IsJudged, Judged, Tells, failed}
use Rattle.ll_check.specs.Wanted.{Satisfies}
use Rattle.landtree.specs.Checked.{ExportsWhatPasses, PassesUnder, check_of}

-- each reply to the tests of these verdicts is as expected
abbrev AreMet : List Judged → Type 0
AreMet verdicts = AllZip (λ (test : Test) (got : Reply). Satisfies test.wanted got)
    (map (λ (it : Judged). it.test) verdicts) (map (λ (it : Judged). it.reply) verdicts)

-- if none fails
each_passes : (verdicts : List Judged) → AllByRecursion IsJudged verdicts → failed verdicts ≡ 0 → AreMet verdicts
each_passes [] all none = tt
each_passes (it ∷ verdicts) all none = go it.passes refl (each_passes verdicts all.1)
  where
    one : failed (it ∷ verdicts) ≡ cond (not it.passes) 1 0 + failed verdicts
    one = sum_by-cons (λ (j : Judged). cond (not j.passes) 1 0) it verdicts

    go : (b : Bool) → it.passes ≡ b → (failed verdicts ≡ 0 → AreMet verdicts) → AreMet (it ∷ verdicts)
    go true e rest =
        let zero : failed (it ∷ verdicts) ≡ 0 + failed verdicts =
        one ∙ ap (λ (b : Bool). cond (not b) 1 0 + failed verdicts) e in
        (all.0.0 e, rest (omega (arith, zero, none)))
    go false e rest =
        let some : failed (it ∷ verdicts) ≡ 1 + failed verdicts =
        one ∙ ap (λ (b : Bool). cond (not b) 1 0 + failed verdicts) e in
        absurd (omega (arith, some, none))

-- the sum of a check that passed has no failed test
none_failed : (sum : Tally) → Passed ≡ end_of sum → sum.failed ≡ 0
none_failed sum = go (eqb sum.failed 0) refl
  where
    go : (b : Bool) → eqb sum.failed 0 ≡ b → Passed ≡ (if b then Passed else Failed) → sum.failed ≡ 0
    go true is e = eqb-true sum.failed 0 is
    go false is e = absurd cc

module _ (order : ExportOrder) (policy : List ℕ) where
  -- without policies of sections, a section's tree has the policy and the profile of the words
  set_alone : (own : Option Own) (tests : ℕ) (setup : Setup) → IsSetFor (check_of order) policy [] own tests setup
      → IsSetup (checked_tree (check_of order) (room_for setup tests)) policy setup
  set_alone None tests setup is =
      let same : is.0 ≡ policy = cc in
      subst (λ (text : List ℕ). IsSetup (checked_tree (check_of order) (room_for setup tests)) text setup) same is.2
  set_alone (Some own) tests setup is = absurd cc

  tests_pass : (section : Tests) (before after : List ℕ) (tally : Tally) → has_test section ≡ true
      → AreTestsChecked (check_of order) policy [] section before after tally → tally.failed ≡ 0
      → PassesUnder order policy section
  tests_pass section before after tally tested are none = go are.1 are.4.0 are.4.1
    where
      go : (made : CallReplies) → Makes are.0 (map (λ test. test.call) section.tests) made are.2
          → Tells (style_of (check_of order)) section.name section.section section.tests made before after tally
          → PassesUnder order policy section
      go (Answered replies) makes told =
          let none_fails : failed told.0 ≡ 0 = sym told.4 ∙ none in
          record {
            tested = tested;
            setup = are.0;
            set = set_alone section.own (length section.tests) are.0 are.3;
            replies = replies;
            entries = are.2;
            made = makes;
            each = subst (λ (tests : List Test). AllZip (λ test got. Satisfies test.wanted got) tests replies.items)
                told.1.of_tests
                (subst (λ (got : List Reply). AllZip (λ (test : Test) (reply : Reply). Satisfies test.wanted reply)
                (map (λ (it : Judged). it.test) told.0) got) told.1.by_replies
                (each_passes told.0 told.1.each none_fails));
          }
      go (Refused refusal) makes told = absurd (omega (arith, told.3, none))

  section_passes : (section : Tests) (before after : List ℕ) (tally : Tally)
      → IsFileChecked (check_of order) policy [] section before after tally → tally.failed ≡ 0
      → PassesUnder order policy section
  section_passes section before after tally is none = go (has_test section) refl is.3
    where
      go : (tested : Bool) → has_test section ≡ tested
          → CountsUntested (style_of (check_of order)) section.name section.section tested is.0 after is.1 tally
          → PassesUnder order policy section
      go true e counts =
          tests_pass section before is.0 is.1 e is.2 (ap (λ (it : Tally). it.failed) (sym counts.1) ∙ none)
      go false e counts = absurd (omega (arith, counts.2, none))

  all_pass : (sections : List Tests) (before after : List ℕ) (sum : Tally)
      → AreChecked (check_of order) policy [] sections before after sum → sum.failed ≡ 0
      → AllByRecursion (PassesUnder order policy) sections
  all_pass [] before after sum are none = tt
  all_pass (section ∷ sections) before after sum are none =
      let first : are.1.failed ≡ 0 = omega (arith, are.6, none) in
      let rest : are.2.failed ≡ 0 = omega (arith, are.6, none) in (
        section_passes section before are.0 are.1 are.3 first,
        all_pass sections are.0 after are.2 are.4 rest,
      )

  concluded_pass : (sections : List Tests) (written : List ℕ)
      → Concludes (check_of order) policy [] sections Passed written
      → AllByRecursion (PassesUnder order policy) sections
  concluded_pass sections written is = all_pass sections [] is.0 is.1 is.2 (none_failed is.1 is.4)

  check_passes : (sources : List Source) (written : List ℕ)
      → IsCheck (check_of order) policy [] sources Passed written
      → (sections : List Tests) × AreTestsIn sources sections × AllByRecursion (PassesUnder order policy) sections
  check_passes sources written (inl bad) = absurd cc
  check_passes sources written (inr is) = (is.0, is.1, concluded_pass is.0 written is.2)

pub exports_what_passes : ExportsWhatPasses
exports_what_passes texts order out out' is =
    let checked = is.2 in
    let passes = check_passes order is.0 checked.0 checked.1 checked.3 in
    (is.0, checked.0, passes.0, is.1, checked.2, passes.1, passes.2, is.3)
