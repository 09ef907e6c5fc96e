use Rattle.std.proofs.Common.{◌≡◌, ◌+◌, take}
use Rattle.ll_check.specs.Report.{Judges}
use Rattle.ll_check.proofs.reporter.Reporter.judge.Given as goal

-- the first so many are judged
abbrev pub invariant-loop-i : goal.invariant-loop-i
invariant-loop-i l = record {
  judges : Judges l.self.style l.self.file.now l.self.section.now (take l.i l.tests) (take l.i l.replies)
      l.fn.out.items l.out.items l.tally;
  all : l.tally.passed + l.tally.failed ≡ l.i;
}
