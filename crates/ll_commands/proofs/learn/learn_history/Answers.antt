use Rattle.std.proofs.Common.{inl, ◌≡◌, Err, rules}
use Rattle.ll_program.specs.Learn.{profile_name}
use Rattle.ll_program.specs.Options.{learn_in}
use Rattle.ll_commands.proofs.Lessons.{by_file, nameless}
use Rattle.ll_commands.proofs.learn.learn_history.Goals as goal

pub returns-in_default-clause-failure : goal.returns-in_default-clause-failure
returns-in_default-clause-failure g c =
    let name = profile_name (learn_in c.args.options.now) in
    inl (nameless c.profile_name.result name c.profile_name.ensures c.in_default.is)

pub returns-in_err-bytes-clause-failure : goal.returns-in_err-bytes-clause-failure
returns-in_err-bytes-clause-failure g c =
    let same : c.from_residual.result ≡ Err c.in_err-bytes.field-0.0 = search rules in
    rw same (by_file (learn_in c.args.options.now) c.in_err-bytes.field-0.0 c.in_err-bytes.ensures.failure)
