use Rattle.std.proofs.Common.{◌≡◌, map, take}
use Rattle.ll_program.specs.Options.{learn_in}
use Rattle.ll_check.specs.Checks.{tests_of}
use Rattle.ll_check.specs.Lessons.{AreTried}
use Rattle.ll_check.proofs.trial.pass_under.Given as goal

-- the files so far are tried
abbrev pub invariant-loop-file : goal.invariant-loop-file
invariant-loop-file g l =
    record {
      same : l.tried.profile ≡ l.candidate.profile;
      tried : AreTried (learn_in l.trees.options.now) l.trees.policy.now l.candidate.profile.now
          (map tests_of (take l.file-index l.files)) l.pass;
    }
