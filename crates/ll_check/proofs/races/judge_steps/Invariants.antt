use Rattle.std.proofs.Common.{◌≡◌, ◌+◌, take}
use Rattle.ll_check.specs.Races.{RunsSteps}
use Rattle.ll_check.proofs.races.judge_steps.Given as goal

-- the first so many are made
abbrev pub invariant-loop-i : goal.invariant-loop-i
invariant-loop-i l = record {
  runs : RunsSteps l.reporter.style l.reporter.file.now l.fn.world (take l.i l.tests) l.fn.out.items l.out.items l.tally
      l.world;
  all : l.tally.passed + l.tally.failed ≡ l.i;
}
