use Rattle.std.proofs.Common.{map}
use Rattle.ll_program.specs.Options.{checked_in}
use Rattle.ll_check.specs.Files.{source_of}
use Rattle.ll_check.proofs.Files.{bad_file, begun, concluded, stopped}
use Rattle.ll_check.proofs.checks.check.Goals as goal

pub returns-in-Ok-conclude-clause-checked : goal.returns-in-Ok-conclude-clause-checked
returns-in-Ok-conclude-clause-checked g c =
    concluded (checked_in c.args.input.now.options.now) c.args.input.now.policy.now
    (map source_of c.args.input.now.policies.now) c.args.input.now.files.now c.in-Ok.files.items
    c.as_slice-2.result.now c.in-Ok.ensures.read c.as_slice-2.ensures.value (g.W.Write.contents c.args.out.now)
    (g.W.Write.contents c.conclude.new.out) c.in-Ok-conclude.end c.in-Ok-conclude.ensures.checked

pub returns-in-Err-clause-checked : goal.returns-in-Err-clause-checked
returns-in-Err-clause-checked g c =
    bad_file (checked_in c.args.input.now.options.now) c.args.input.now.policy.now
    (map source_of c.args.input.now.policies.now) c.args.input.now.files.now
    c.in-Err.bad.fault (g.W.Write.contents c.args.out.now) c.tell_bad.result c.in-Err.ensures.bad
    c.tell_bad.ensures.line

pub returns-clause-failure : goal.returns-clause-failure
returns-clause-failure g c =
    stopped (checked_in c.args.input.now.options.now) c.args.input.now.policy.now
    (map source_of c.args.input.now.policies.now) c.args.input.now.files.now c.in-Ok.files.items
    c.as_slice-2.result.now c.in-Ok.ensures.read c.as_slice-2.ensures.value c.in-Err-conclude.stopped.failure
    c.in-Err-conclude.ensures.failure

pub returns-clause-begun : goal.returns-clause-begun
returns-clause-begun g c =
    begun (checked_in c.args.input.now.options.now) c.args.input.now.policy.now
    (map source_of c.args.input.now.policies.now) c.args.input.now.files.now c.in-Ok.files.items
    c.as_slice-2.result.now c.in-Ok.ensures.read c.as_slice-2.ensures.value (g.W.Write.contents c.args.out.now)
    (g.W.Write.contents c.conclude.new.out) c.in-Err-conclude.stopped.failure c.in-Err-conclude.ensures.begun
