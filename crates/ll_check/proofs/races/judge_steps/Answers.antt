use Rattle.std.proofs.Common.{arith}
use Rattle.ll_check.proofs.Judges.{counted}
use Rattle.ll_check.proofs.RunRaces.{all_run, next_runs}
use Rattle.ll_check.proofs.races.judge_steps.Goals as goal

pub loop-i-preserved : goal.loop-i-preserved
loop-i-preserved c =
    let made = c.in_ok-passes.ensures in
    record {
      runs = next_runs c.args.reporter.now.style c.args.reporter.now.file.now c.args.tests.now c.loop-i.i
          c.index-tests-i.result made.0 c.in_ok-passes.passes c.args.world.now c.loop-i.world c.judge_step.new.world
          c.args.out.now.items c.loop-i.out.items c.judge_step.new.out.items c.loop-i.tally c.count.new.self
          (omega arith) c.index-tests-i.is c.loop-i.invariant.runs made.1 made.2 made.3 made.4
          c.count.ensures.passed c.count.ensures.failed;
      all = counted c.loop-i.tally.passed c.loop-i.tally.failed c.count.new.self.passed c.count.new.self.failed
          c.loop-i.i c.in_ok-passes.passes c.count.ensures.passed c.count.ensures.failed c.loop-i.invariant.all;
    }

pub returns : goal.returns
returns c =
    all_run c.args.reporter.now.style c.args.reporter.now.file.now c.args.tests.now c.loop-i.i c.args.world.now
    c.loop-i.world c.args.out.now.items c.loop-i.out.items c.loop-i.tally (omega arith) c.loop-i.invariant.runs
