use Rattle.std.specs.Prelude.{refl}
use Rattle.std.proofs.Common.{inl, subst, sym, ◌≡◌, Err, rules}
use Rattle.ll_program.specs.Rights.{rights_in}
use Rattle.ll_commands.specs.Profiles.{IsAllTables, LacksTables}
use Rattle.ll_commands.proofs.Written.{broken, written}
use Rattle.ll_commands.proofs.profiles.tell_all_rights.Goals as goal

pub returns-in_err-tables-clause-failure : goal.returns-in_err-tables-clause-failure
returns-in_err-tables-clause-failure g c =
    let same : c.from_residual.result ≡ Err c.in_err-tables.field-0.0 = search rules in
    rw same (let fails = c.in_err-tables.ensures.failure in
    (fails.0, fails.1, inl (fails.2, refl)))

pub returns-clause-tables : goal.returns-clause-tables
returns-clause-tables g c =
    let order = rights_in c.args.options.now in
    let is = c.in_ok-tables.ensures.tables in
    written (g.R.Read.remaining c.args.file.now) (g.W.Write.contents c.args.out.now)
    (g.W.Write.contents c.write_text.new.out) (IsAllTables order) is.0 c.as_str.result.now is.1
    (subst (IsAllTables order is.0) (sym c.as_str.ensures.value) is.2) c.write_text.result c.write_text.ensures.ok

pub returns-clause-failure : goal.returns-clause-failure
returns-clause-failure g c =
    let order = rights_in c.args.options.now in
    let is = c.in_ok-tables.ensures.tables in
    broken (g.R.Read.remaining c.args.file.now) (g.W.Write.contents c.args.out.now)
    (g.W.Write.contents c.write_text.new.out) (IsAllTables order) is.0 c.as_str.result.now is.1
    (subst (IsAllTables order is.0) (sym c.as_str.ensures.value) is.2) (LacksTables order) c.write_text.result
    c.write_text.ensures.failure
