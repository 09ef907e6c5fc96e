use Rattle.std.specs.Prelude.{refl}
use Rattle.std.proofs.Common.{inl, subst, sym, ◌≡◌, Err, rules}
use Rattle.ll_program.specs.Options.{rights_in}
use Rattle.ll_commands.specs.Rights.{IsTable, LacksTable}
use Rattle.ll_commands.proofs.Written.{broken, written}
use Rattle.ll_commands.proofs.rights.tell_rights.Goals as goal

pub returns-in_err-table-clause-failure : goal.returns-in_err-table-clause-failure
returns-in_err-table-clause-failure g c =
    let same : c.from_residual.result ≡ Err c.in_err-table.field-0.0 = search rules in
    rw same (let fails = c.in_err-table.ensures.failure in
    (fails.0, fails.1, inl (fails.2, refl)))

pub returns-clause-table : goal.returns-clause-table
returns-clause-table g c =
    let order = rights_in c.args.options.now in
    let profile = c.args.profile.now in
    let is = c.in_ok-table.ensures.table in
    written (g.R.Read.remaining c.args.file.now) (g.W.Write.contents c.args.out.now)
    (g.W.Write.contents c.write_text.new.out) (IsTable order profile) is.0 c.as_str.result.now is.1
    (subst (IsTable order profile is.0) (sym c.as_str.ensures.value) is.2) c.write_text.result c.write_text.ensures.ok

pub returns-clause-failure : goal.returns-clause-failure
returns-clause-failure g c =
    let order = rights_in c.args.options.now in
    let profile = c.args.profile.now in
    let is = c.in_ok-table.ensures.table in
    broken (g.R.Read.remaining c.args.file.now) (g.W.Write.contents c.args.out.now)
    (g.W.Write.contents c.write_text.new.out) (IsTable order profile) is.0 c.as_str.result.now is.1
    (subst (IsTable order profile is.0) (sym c.as_str.ensures.value) is.2) (LacksTable order profile)
    c.write_text.result c.write_text.ensures.failure
