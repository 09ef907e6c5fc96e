use Rattle.ll_program.specs.Options.{checked_in}
use Rattle.ll_check.proofs.RunRaces.{next_run}
use Rattle.ll_check.proofs.races.run_all.Goals as goal

pub loop-file-preserved : goal.loop-file-preserved
loop-file-preserved c =
    next_run (checked_in c.args.options.now) c.args.files.now c.loop-file.file-index c.file-item.result
    c.args.report.now.items c.loop-file.report.items c.run_file.new.report.items c.loop-file.sum c.in_ok-tally.tally
    c.in_ok-sum.sum c.loop-file-test.true c.file-item.is c.loop-file.invariant c.in_ok-tally.ensures.run
    c.in_ok-sum.ensures.passed c.in_ok-sum.ensures.failed
