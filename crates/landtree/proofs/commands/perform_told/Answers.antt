use Rattle.ll_program.specs.Options.{scheduled_in}
use Rattle.ll_commands.proofs.Performed.{ends_schedule}
use Rattle.landtree.proofs.commands.perform_told.Goals as goal

pub returns-in-Ok : goal.returns-in-Ok
returns-in-Ok g c =
    ends_schedule (scheduled_in c.args.options.now) (g.R.Read.remaining c.args.input.now)
    (g.W.Write.contents c.args.out.now) (g.W.Write.contents c.schedule.new.out) c.in-Ok.made.halt
    c.conclude_schedule.result c.in-Ok.ensures.told c.conclude_schedule.ensures.end c.conclude_schedule.ensures.failure
