use Rattle.ll_program.specs.Options.{checked_in}
use Rattle.ll_check.proofs.RunRaces.{bad_file, begun, concluded}
use Rattle.ll_check.proofs.races.check_schedules.Goals as goal

pub returns-clause-checked : goal.returns-clause-checked
returns-clause-checked g c =
    concluded (checked_in c.args.options.now) c.args.files.now
    c.in-Ok.read.items c.as_slice-2.result.now (g.W.Write.contents c.args.out.now)
    (g.W.Write.contents c.conclude.new.out) c.conclude.result c.in-Ok.ensures.read c.as_slice-2.ensures.value
    c.conclude.ensures.checked

pub returns-in-Err-clause-checked : goal.returns-in-Err-clause-checked
returns-in-Err-clause-checked g c =
    bad_file (checked_in c.args.options.now) c.args.files.now
    c.in-Err.bad.fault (g.W.Write.contents c.args.out.now) c.tell_bad.result c.in-Err.ensures.bad
    c.tell_bad.ensures.line

pub returns-clause-begun : goal.returns-clause-begun
returns-clause-begun g c =
    begun (checked_in c.args.options.now) c.args.files.now
    c.in-Ok.read.items c.as_slice-2.result.now (g.W.Write.contents c.args.out.now)
    (g.W.Write.contents c.conclude.new.out) c.conclude.result c.in-Ok.ensures.read c.as_slice-2.ensures.value
    c.conclude.ensures.begun
