use Rattle.std.proofs.Common.{◌≡◌, Err, rules}
use Rattle.ll_commands.proofs.Rows.{left}
use Rattle.ll_commands.proofs.Failures.{by_file}
use Rattle.ll_commands.proofs.why.answer_of_entry.Goals as goal

pub returns-in_err-bytes-clause-failure : goal.returns-in_err-bytes-clause-failure
returns-in_err-bytes-clause-failure g c =
    let same : c.from_residual.result ≡ Err c.in_err-bytes.field-0.0 = search rules in
    rw same (let t = left (g.R.Read.remaining c.args.file.now) in
    (t.0, t.1, by_file c.args.number t.0 c.in_err-bytes.field-0.0 c.in_err-bytes.ensures.failure))
