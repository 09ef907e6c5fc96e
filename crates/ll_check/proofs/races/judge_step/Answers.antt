use Rattle.ll_check.proofs.RunRaces.{step_judged}
use Rattle.ll_check.proofs.races.judge_step.Goals as goal

pub returns : goal.returns
returns c =
    step_judged c.args.reporter.now.style c.args.reporter.now.file.now c.args.test.now c.args.world.now
    c.make_line.new.world c.in_ok-report.report c.history.result.now c.entries-history.result.now _
    c.as_bytes.result.now c.is_met-passes.result c.args.out.now.items c.push_step.new.out.items c.in_ok-report.ensures
    c.history.ensures c.entries-history.ensures.entries c.is_met-passes.ensures c.in_ok-got.ensures
    c.as_bytes.ensures.value c.in_ok-push_step.ensures
