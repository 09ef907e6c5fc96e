use Rattle.std.proofs.Common.{rules}
use Rattle.ll_session.specs.Run.{refusal_in}
use Rattle.ll_program.proofs.PerformedRuns.{by_devices, moved, opened_there}
use Rattle.ll_program.proofs.program.perform.Goals as goal

pub returns-clause-transcript : goal.returns-clause-transcript
returns-clause-transcript g c =
    moved c.perform_over.result c.args.setup c.args.is_strict (λ it. it.stop) (λ it. it.run.history.entries)
    (g.R.Read.remaining c.args.script.now) (g.R.Read.remaining c.perform_over.new.ends.reader.now) _
    (g.W.Write.contents c.args.out.now) (g.W.Write.contents c.perform_over.new.ends.writer.now) _ (search rules)
    (search rules) (rw c.new-ends.ensures at c.perform_over.ensures.transcript)

pub returns-clause-failure : goal.returns-clause-failure
returns-clause-failure g c =
    by_devices c.perform_over.result c.args.setup c.args.is_strict _ _ (g.R.Read.remaining c.args.script.now)
    (g.W.Write.contents c.args.out.now) (g.W.Write.contents c.perform_over.new.ends.writer.now) _ (search rules)
    (rw c.new-ends.ensures at c.perform_over.ensures.failure)

pub returns-clause-opening : goal.returns-clause-opening
returns-clause-opening g c =
    opened_there c.perform_over.result c.args.setup (λ it. refusal_in it.stop it.refusal)
    (λ it. it.run.history.entries) (g.W.Write.contents c.args.out.now)
    (g.W.Write.contents c.perform_over.new.ends.writer.now) _ (search rules)
    (rw c.new-ends.ensures at c.perform_over.ensures.opening)
