use Rattle.ll_program.specs.Options.{checked_in}
use Rattle.ll_check.proofs.RunRaces.{file_run}
use Rattle.ll_check.proofs.races.run_steps.Goals as goal

pub returns-in-Ok-judge_steps-clause-run : goal.returns-in-Ok-judge_steps-clause-run
returns-in-Ok-judge_steps-clause-run c =
    let on = c.reporter-reporter in
    file_run (checked_in c.args.options.now) c.args.file.now on.result.style c.setup_by-setup.result
    on.result.file.now c.as_slice-tests.result.now c.in-Ok.world c.judge_steps.new.world c.args.report.now.items
    c.judge_steps.new.out.items c.in-Ok-judge_steps.tally on.ensures.style on.ensures.file
    c.as_slice-tests.ensures.value c.setup_by-setup.ensures c.in-Ok.ensures c.in-Ok-judge_steps.ensures
