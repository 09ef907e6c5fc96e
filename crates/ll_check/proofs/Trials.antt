-- Trials of profiles: what the tests of files get under them.
use Rattle.std.proofs.Common.{◌≡◌, ◌∙◌, ℕ, ◌+◌, Bool, true, false, cond, not, List, [], ◌∷◌, ◌++◌, length, map, refl}
use Rattle.std.proofs.Common.{eqb, sym, ap, subst, arith, Result, Ok, Err}
use Rattle.std.specs.Prelude.{◌&&◌}
use Rattle.std.specs.List.{AllByRecursion, AllZip, list_all}
use Rattle.std.proofs.lemmas.Bool.{and_parts, false≢true, ne_eqb}
use Rattle.std.proofs.lemmas.List.Folds.{list_all-append}
use Rattle.std.proofs.lemmas.List.Sums.{sum_by-cons}
use Rattle.ll_seq.specs.declared.call.Call.{Call}
use Rattle.ll_seq.specs.declared.reply.Entry.{Entry}
use Rattle.ll_seq.specs.declared.reply.Reply.{Reply}
use Rattle.ll_learn.specs.declared.profile.LearnedProfile.{LearnedProfile}
use Rattle.ll_learn.specs.Profile.{calls_of}
use Rattle.ll_session.specs.declared.calls_run.CallReplies.{CallReplies}
use Rattle.ll_session.specs.declared.calls_run.CallReplies.TheVariants.{Answered, Refused}
use Rattle.ll_session.specs.declared.refusal.Refusal.{Refusal}
use Rattle.ll_session.specs.declared.setup.Setup.{Setup}
use Rattle.ll_program.specs.Options.{LearnOrder}
use Rattle.ll_check.specs.declared.reporter.Style.{Style}
use Rattle.ll_check.specs.declared.reporter.Tally.{Tally}
use Rattle.ll_check.specs.declared.check_text.Test.{Test}
use Rattle.ll_check.specs.Checks.{Tests}
use Rattle.ll_check.specs.Lessons.{AreRun, AreTried, HasTrial, IsTree, IsTried, PassesUnder, is_passed, ran_out}
use Rattle.ll_check.specs.Report.{AreJudged, IsChecked, IsJudged, Judged, failed}
use Rattle.ll_check.specs.Wanted.{Satisfies}
use Rattle.ll_check.proofs.Told.{each_more}

-- ---- verdicts

-- none fails exactly where all pass
none_fails : (verdicts : List Judged) → eqb (failed verdicts) 0 ≡ list_all (λ (it : Judged). it.passes) verdicts
none_fails [] = refl
none_fails (it ∷ verdicts) = go it.passes refl (none_fails verdicts)
  where
    one : failed (it ∷ verdicts) ≡ cond (not it.passes) 1 0 + failed verdicts
    one = sum_by-cons (λ (j : Judged). cond (not j.passes) 1 0) it verdicts

    go : (b : Bool) → it.passes ≡ b
        → eqb (failed verdicts) 0 ≡ list_all (λ (j : Judged). j.passes) verdicts
        → eqb (failed (it ∷ verdicts)) 0 ≡ list_all (λ (j : Judged). j.passes) (it ∷ verdicts)
    go true e rest =
        let zero : failed (it ∷ verdicts) ≡ 0 + failed verdicts =
        one ∙ ap (λ (b : Bool). cond (not b) 1 0 + failed verdicts) e in
        let same : failed (it ∷ verdicts) ≡ failed verdicts = omega (arith, zero) in
        ap (λ (n : ℕ). eqb n 0) same ∙ rest
        ∙ ap (λ (b : Bool). b && list_all (λ (j : Judged). j.passes) verdicts) (sym e)
    go false e rest =
        let some : failed (it ∷ verdicts) ≡ 1 + failed verdicts =
        one ∙ ap (λ (b : Bool). cond (not b) 1 0 + failed verdicts) e in
        ne_eqb (failed (it ∷ verdicts)) 0 (λ none. absurd (omega (arith, some, none)))
        ∙ ap (λ (b : Bool). b && list_all (λ (j : Judged). j.passes) verdicts) (sym e)

-- where all pass, each reply is as expected
each_passes : (verdicts : List Judged) → AllByRecursion IsJudged verdicts
    → list_all (λ (it : Judged). it.passes) verdicts ≡ true
    → AllZip (λ (test : Test) (got : Reply). Satisfies test.wanted got) (map (λ (it : Judged). it.test) verdicts)
    (map (λ (it : Judged). it.reply) verdicts)
each_passes [] all pass = tt
each_passes (it ∷ verdicts) all pass =
    let both = and_parts it.passes (list_all (λ (j : Judged). j.passes) verdicts) pass in
    (all.0.0 both.0, each_passes verdicts all.1 both.1)

and_all : (b : Bool) → b ≡ (b && true)
and_all true = refl
and_all false = refl

module _ (order : LearnOrder) (policy : List ℕ) (profile : LearnedProfile) where
  -- ---- one file

  -- a file that was checked under the profile was tried
  pub file_tried : (file : Tests) (tests : List Test) (calls : List Call) (style : Style) (setup : Setup)
      (name section : List ℕ) (made : CallReplies) (entries : List Entry) (before after : List ℕ) (tally : Tally)
      → tests ≡ file.tests → calls ≡ calls_of profile → IsTree order policy calls (length tests) setup
      → IsChecked style setup name section tests made entries before after tally → ran_out made ≡ false
      → HasTrial order policy profile file (eqb tally.failed 0)
  file_tried file tests calls style setup name section (Answered replies) entries before after tally e same tree
      checked enough = (
        Ok checked.1.0,
        (
          replies,
          subst (λ (x : List Test). AreRun order policy (calls_of profile) x (Answered replies)) e (record {
            setup = setup;
            entries = entries;
            tree = subst (λ (x : List Call). IsTree order policy x (length tests) setup) same tree;
            makes = checked.0;
            enough = enough;
          }),
          subst (λ (x : List Test). AreJudged x replies.items checked.1.0) e checked.1.1,
        ),
        ap (λ (n : ℕ). eqb n 0) checked.1.4 ∙ none_fails checked.1.0,
      )
  file_tried file tests calls style setup name section (Refused refusal) entries before after tally e same tree
      checked enough = (
        Err refusal,
        subst (λ (x : List Test). AreRun order policy (calls_of profile) x (Refused refusal)) e (record {
          setup = setup;
          entries = entries;
          tree = subst (λ (x : List Call). IsTree order policy x (length tests) setup) same tree;
          makes = checked.0;
          enough = enough;
        }),
        ap (λ (n : ℕ). eqb n 0) checked.1.3,
      )

  -- a file whose trial passes passes
  trial_passes : (file : Tests) (trial : Result (List Judged) Refusal) → IsTried order policy profile file trial
      → is_passed trial ≡ true → PassesUnder order policy profile file
  trial_passes file (Ok verdicts) tried pass =
      let run = tried.1 in
      let judged = tried.2 in (
        run.entries,
        record {
          setup = run.setup;
          replies = tried.0;
          tree = run.tree;
          makes = run.makes;
          each = subst (λ (x : List Test). AllZip (λ (test : Test) (got : Reply). Satisfies test.wanted got) x
              tried.0.items) judged.of_tests
              (subst (λ (x : List Reply). AllZip (λ (test : Test) (got : Reply). Satisfies test.wanted got)
              (map (λ (it : Judged). it.test) verdicts) x) judged.by_replies
              (each_passes verdicts judged.each pass));
        },
      )
  trial_passes file (Err refusal) tried pass = absurd (false≢true pass)

  -- ---- all files

  pub none_tried : AreTried order policy profile [] true
  none_tried = record { trials = []; tried = tt; all = refl }

  pub one_more_tried : (front : List Tests) (file : Tests) (pass passes both : Bool)
      → AreTried order policy profile front pass → HasTrial order policy profile file passes
      → both ≡ (pass && passes) → AreTried order policy profile (front ++ file ∷ []) both
  one_more_tried front file pass passes both so trial e = record {
    trials = so.trials ++ trial.0 ∷ [];
    tried = each_more (IsTried order policy profile) front so.trials file trial.0 so.tried trial.1;
    all = e ∙ ap (λ (b : Bool). b && passes) so.all
        ∙ ap (λ (b : Bool). list_all is_passed so.trials && b) (trial.2 ∙ and_all (is_passed trial.0))
        ∙ sym (list_all-append is_passed so.trials (trial.0 ∷ []));
  }

  all_pass_under : (files : List Tests) (trials : List (Result (List Judged) Refusal))
      → AllZip (IsTried order policy profile) files trials → list_all is_passed trials ≡ true
      → AllByRecursion (PassesUnder order policy profile) files
  all_pass_under [] [] tried pass = tt
  all_pass_under [] (trial ∷ trials) tried pass = absurd tried
  all_pass_under (file ∷ files) [] tried pass = absurd tried
  all_pass_under (file ∷ files) (trial ∷ trials) tried pass =
      let both = and_parts (is_passed trial) (list_all is_passed trials) pass in
      (trial_passes file trial tried.0 both.0, all_pass_under files trials tried.1 both.1)

  -- where none is missed, all pass
  pub tried_so : (files : List Tests) (passes : Bool) → AreTried order policy profile files passes → passes ≡ true
      → AllByRecursion (PassesUnder order policy profile) files
  tried_so files passes so pass = all_pass_under files so.trials so.tried (sym so.all ∙ pass)
