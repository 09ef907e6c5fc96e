use Rattle.std.proofs.Common.{List, ℕ, Result, string_bytes, subst, sym}
use Rattle.std.proofs.lemmas.Result.{IfErr-weaker}
use Rattle.std.specs.Prelude.{IfErr, ◌≡◌}
use Rattle.ll_wire.specs.WriterGains.{AppendsFront}
use Rattle.ll_program.specs.Failure.{IsOfExport}
use Rattle.ll_program.specs.Options.{exported_in}
use Rattle.ll_program.specs.declared.failure.Failure.{Failure}
use Rattle.ll_program.specs.declared.failure.Failure.TheVariants.{Output}
use Rattle.ll_commands.specs.Export.{IsExport, MayFail}
use Rattle.ll_commands.proofs.ExportFailures.{left}
use Rattle.ll_commands.proofs.Written.{written}
use Rattle.ll_commands.proofs.exports.export.Goals as goal

pub returns-clause-export : goal.returns-clause-export
returns-clause-export g c =
    let order = exported_in c.args.options.now in
    let is = c.in_ok-text.ensures.export in
    written (g.R.Read.remaining c.args.file.now) (g.W.Write.contents c.args.out.now)
    (g.W.Write.contents c.write_text.new.out) (IsExport order) is.0 c.as_str.result.now is.1
    (subst (IsExport order is.0) (sym c.as_str.ensures.value) is.2) c.write_text.result c.write_text.ensures.ok

pub returns-clause-failure : goal.returns-clause-failure
returns-clause-failure g c =
    let text = left (g.R.Read.remaining c.args.file.now) in
    IfErr-weaker c.write_text.result _ _ (λ failure h. (
      text.0,
      text.1,
      subst (MayFail (exported_in c.args.options.now) text.0) (sym h.0) tt,
    )) c.write_text.ensures.failure

pub returns-clause-alone : goal.returns-clause-alone
returns-clause-alone g c =
    IfErr-weaker c.write_text.result _ _ (λ failure h. subst IsOfExport (sym h.0) tt) c.write_text.ensures.failure

pub returns-clause-nothing : goal.returns-clause-nothing
returns-clause-nothing g c =
    IfErr-weaker c.write_text.result _ _ (λ failure h other. absurd (other h.0)) c.write_text.ensures.failure

pub returns-clause-broken : goal.returns-clause-broken
returns-clause-broken g c failed =
    let order = exported_in c.args.options.now in
    let is = c.in_ok-text.ensures.export in
    let out = g.W.Write.contents c.args.out.now in
    let out' = g.W.Write.contents c.write_text.new.out in
    let fails = subst (λ r. IfErr r (λ failure. (failure ≡ Output) × AppendsFront out out' c.as_str.result.now)) failed
    c.write_text.ensures.failure in
    (is.0, is.1, c.as_str.result.now, subst (IsExport order is.0) (sym c.as_str.ensures.value) is.2, fails.1)
