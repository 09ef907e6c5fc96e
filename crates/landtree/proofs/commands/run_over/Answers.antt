use Rattle.ll_program.specs.Options.{order_in}
use Rattle.landtree.proofs.Runs.{failure_packed, run_packed}
use Rattle.landtree.proofs.commands.run_over.Goals as goal

pub returns-clause-done : goal.returns-clause-done
returns-clause-done g c =
    run_packed (order_in c.args.options.now) c.run.result (g.P.Read.remaining c.args.policy.now)
    (g.R.Read.remaining c.args.script.now) (g.R.Read.remaining c.run.new.script) (g.W.Write.contents c.args.out.now)
    (g.W.Write.contents c.run.new.out) (g.F.Destination.blank c.args.file.now)
    (g.F.Destination.contents c.args.file.now) (g.F.Destination.contents c.run.new.file) c.run.ensures.done

pub returns-clause-failure : goal.returns-clause-failure
returns-clause-failure g c =
    failure_packed (order_in c.args.options.now) c.run.result (g.P.Read.remaining c.args.policy.now)
    (g.R.Read.remaining c.args.script.now) (g.R.Read.remaining c.run.new.script) (g.W.Write.contents c.args.out.now)
    (g.W.Write.contents c.run.new.out) c.run.ensures.failure
