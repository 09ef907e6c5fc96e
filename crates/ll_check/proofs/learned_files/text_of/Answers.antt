use Rattle.std.proofs.Common.{◌∙◌, ◌<◌, ◌≤◌, ℕ, Bool, List, ap, inl, inr, length, map, refl, subst}
use Rattle.ll_learn.specs.Profile.{profile_text}
use Rattle.ll_program.specs.Options.{learn_in}
use Rattle.ll_check.specs.Checks.{Tests, tests_of}
use Rattle.ll_check.specs.Lessons.{AreTried, FailsToLearn, IsTaughtBy, TeachNothing, lesson_note, picked}
use Rattle.ll_check.proofs.Trials.{tried_so}
use Rattle.ll_check.proofs.learned_files.text_of.Goals as goal

pub returns-in-Err-clause-failure : goal.returns-in-Err-clause-failure
returns-in-Err-clause-failure g c =
    subst (λ (x : List Tests). FailsToLearn (learn_in c.args.trees.now.options.now) c.args.trees.now.policy.now x
    c.in-Err.failure) (ap (map picked) c.as_slice.ensures.value ∙ c.in_ok-lessons.ensures.lessons)
    c.in-Err.ensures.failure

pub returns-then-not-are_few-clause-failure : goal.returns-then-not-are_few-clause-failure
returns-then-not-are_few-clause-failure g c =
    let profile = c.in-Ok-Some.lesson.profile in
    let taught = rw c.in-Ok-Some.field-0-is at c.in-Ok-Some.ensures.taught in
    inl (
      refl,
      inr (
        profile,
        subst (λ (x : List Tests). IsTaughtBy (learn_in c.args.trees.now.options.now) c.args.trees.now.policy.now x
            profile) (ap (map picked) c.as_slice.ensures.value ∙ c.in_ok-lessons.ensures.lessons) taught,
        subst (λ (n : ℕ). n < length profile.rules.items) c.requires.most
            (c.are_few.ensures.many c.if-not-are_few.true),
      ),
    )

pub returns-in-Ok-clause-profile : goal.returns-in-Ok-clause-profile
returns-in-Ok-clause-profile g c =
    let profile = c.in-Ok-Some.lesson.profile in
    let taught = rw c.in-Ok-Some.field-0-is at c.in-Ok-Some.ensures.taught in
    record {
      tested = c.requires.tested;
      profile = profile;
      taught = subst (λ (x : List Tests). IsTaughtBy (learn_in c.args.trees.now.options.now)
          c.args.trees.now.policy.now x profile)
          (ap (map picked) c.as_slice.ensures.value ∙ c.in_ok-lessons.ensures.lessons) taught;
      few = subst (λ (n : ℕ). length profile.rules.items ≤ n) c.requires.most
          (c.are_few.ensures.few c.if-not-are_few.false);
      passes = tried_so (learn_in c.args.trees.now.options.now) c.args.trees.now.policy.now profile
          (map tests_of c.args.files.now) _ c.in-Ok-true.ensures.tried c.in-Ok-true.field-0-test;
      name = c.args.request.now.name.now;
      named = c.requires.name;
      text = c.in-Ok.ensures
          ∙ ap (λ (x : List Tests). profile_text (lesson_note x) c.args.request.now.name.now profile)
          (ap (map picked) c.as_slice-3.ensures.value ∙ c.in_ok-lessons.ensures.lessons);
    }

pub returns-in-Ok-None-clause-hindered : goal.returns-in-Ok-None-clause-hindered
returns-in-Ok-None-clause-hindered g c =
    let nothing = rw c.in-Ok-None.field-0-is at c.in-Ok-None.ensures.nothing in
    inr (inl (subst (λ (x : List Tests). TeachNothing (learn_in c.args.trees.now.options.now)
    c.args.trees.now.policy.now x) (ap (map picked) c.as_slice.ensures.value ∙ c.in_ok-lessons.ensures.lessons)
    nothing))

pub returns-in-Ok-false-clause-hindered : goal.returns-in-Ok-false-clause-hindered
returns-in-Ok-false-clause-hindered g c =
    let profile = c.in-Ok-Some.lesson.profile in
    let taught = rw c.in-Ok-Some.field-0-is at c.in-Ok-Some.ensures.taught in
    inr (inr (
      profile,
      subst (λ (x : List Tests). IsTaughtBy (learn_in c.args.trees.now.options.now) c.args.trees.now.policy.now x
          profile) (ap (map picked) c.as_slice.ensures.value ∙ c.in_ok-lessons.ensures.lessons) taught,
      subst (λ (n : ℕ). length profile.rules.items ≤ n) c.requires.most
          (c.are_few.ensures.few c.if-not-are_few.false),
      subst (λ (b : Bool). AreTried (learn_in c.args.trees.now.options.now) c.args.trees.now.policy.now profile
          (map tests_of c.args.files.now) b) c.in-Ok-false.field-0-test c.in-Ok-false.ensures.tried,
    ))

pub returns-in-Err-passes-clause-failure : goal.returns-in-Err-passes-clause-failure
returns-in-Err-passes-clause-failure g c = inr c.in-Err-passes.ensures.failure
