use Rattle.ll_program.specs.Options.{scheduled_in}
use Rattle.ll_commands.proofs.Performed.{performed, unperformed}
use Rattle.ll_commands.proofs.schedules.schedule.Goals as goal

pub returns-clause-told : goal.returns-clause-told
returns-clause-told g c =
    performed (scheduled_in c.args.options.now) c.setup_by.result c.setup_by.ensures
    (g.R.Read.remaining c.args.file.now)
    (g.W.Write.contents c.args.out.now) (g.W.Write.contents c.perform_schedule.new.out) (λ it. it.halt)
    c.perform_schedule.result c.perform_schedule.ensures.transcript c.perform_schedule.ensures.lax

pub returns-clause-failure : goal.returns-clause-failure
returns-clause-failure g c =
    unperformed (scheduled_in c.args.options.now) c.setup_by.result c.setup_by.ensures
    (g.R.Read.remaining c.args.file.now)
    (g.W.Write.contents c.args.out.now) (g.W.Write.contents c.perform_schedule.new.out) c.perform_schedule.result
    c.perform_schedule.ensures.failure c.perform_schedule.ensures.beginning
