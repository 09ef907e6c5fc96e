use Rattle.std.proofs.Common.{◌∙◌, List, map, refl, subst, sym, take}
use Rattle.std.specs.Borrow.{Bor}
use Rattle.ll_program.specs.Options.{learn_in}
use Rattle.ll_learn.specs.declared.profile.LearnedProfile.{LearnedProfile}
use Rattle.ll_check.specs.Checks.{Tests, tests_of}
use Rattle.ll_check.specs.Lessons.{AreTried, HasTrial}
use Rattle.ll_check.proofs.Files.{one_more}
use Rattle.ll_check.proofs.Trials.{none_tried, one_more_tried}
use Rattle.ll_check.proofs.trial.pass_under.Goals as goal

pub loop-file-init : goal.loop-file-init
loop-file-init g c = record {
  same = refl;
  tried = none_tried (learn_in c.args.trees.now.options.now) c.args.trees.now.policy.now
      c.args.candidate.now.profile.now;
}

pub loop-file-preserved : goal.loop-file-preserved
loop-file-preserved g c =
    let order = learn_in c.args.trees.now.options.now in
    let policy = c.args.trees.now.policy.now in
    let profile = c.args.candidate.now.profile.now in
    let files = c.args.files.now in
    let i = c.loop-file.file-index in
    let file = c.file-item.result in
    let trial : HasTrial order policy profile (tests_of file) c.in-Ok.passes =
    subst (λ (p : Bor LearnedProfile). HasTrial order policy p.now (tests_of file) c.in-Ok.passes)
    c.loop-file.invariant.same c.in-Ok.ensures.tried in
    record {
      same = c.next-tried.ensures ∙ c.passes_under.ensures.same ∙ c.loop-file.invariant.same;
      tried = subst (λ (x : List Tests). AreTried order policy profile x c.both-pass.result)
          (sym (one_more files i file c.loop-file-test.true c.file-item.is))
          (one_more_tried order policy profile (map tests_of (take i files)) (tests_of file) c.loop-file.pass
          c.in-Ok.passes c.both-pass.result c.loop-file.invariant.tried trial c.both-pass.ensures);
    }
