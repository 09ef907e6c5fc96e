use Rattle.std.proofs.Common.{Err, rules}
use Rattle.ll_session.specs.declared.stop.Run.{Run}
use Rattle.ll_session.proofs.Endings.{of_err, script_runs}
use Rattle.ll_session.proofs.run.run_script.Goals as goal

pub returns-in-Ok-clause-transcript : goal.returns-in-Ok-clause-transcript
returns-in-Ok-clause-transcript g c =
    let ran = script_runs c.in-Ok.field-0 c.args.setup (g.R.Read.remaining c.args.reader.now)
    (g.R.Read.remaining c.run_over.new.ends.reader.now) (g.W.Write.contents c.args.writer.now)
    (g.W.Write.contents c.run_over.new.ends.writer.now) (rw c.new-ends.ensures at c.in-Ok.ensures.transcript)
    in search rules

pub returns-clause-beginning : goal.returns-clause-beginning
returns-clause-beginning g c =
    let begins = of_err {T = Run} c.args.setup (Err c.in-Err.fault) (g.R.Read.remaining c.args.reader.now)
    (g.W.Write.contents c.args.writer.now) (g.W.Write.contents c.run_over.new.ends.writer.now)
    (rw c.new-ends.ensures at c.in-Err.ensures.beginning) in search rules
