use Rattle.std.proofs.Common.{◌≡◌, ◌∙◌, refl, subst, sym, Some, Err, rules}
use Rattle.std.specs.Prelude.{IfSome, ℕ, List}
use Rattle.std.proofs.KnownBytes.{Keeps-refl}
use Rattle.std.proofs.Common.{inl}
use Rattle.ll_program.specs.Options.{exported_in}
use Rattle.ll_check.specs.Ends.{IsPolicyText}
use Rattle.landtree.proofs.CheckedFiles.{exported}
use Rattle.landtree.proofs.Exported.{checked_export_written}
use Rattle.landtree.proofs.checks.export_policy.Goals as goal

pub returns-in_err-checked-clause-written : goal.returns-in_err-checked-clause-written
returns-in_err-checked-clause-written g c =
    let same : c.from_residual.result ≡ Err c.in_err-checked.field-0.0 = search rules in
    rw same (λ known. inl (Keeps-refl _))

pub returns-clause-written : goal.returns-clause-written
returns-clause-written g c = λ known.
    let texts = g.S.Sources.texts c.args.sources.now in
    let order = exported_in c.args.options.now in
    checked_export_written texts order (Some c.args.policy.now) (g.W.Write.contents c.args.out.now)
    (g.W.Write.contents c.export_checked.new.out)
    (λ text same. subst (IsPolicyText texts (Some order.policy)) (sym same) known)
    c.in_ok-checked.checked c.export_checked.result c.export_checked.ensures.end c.export_checked.ensures.export
    c.export_checked.ensures.nothing c.export_checked.ensures.quiet c.export_checked.ensures.broken

pub returns-clause-checked : goal.returns-clause-checked
returns-clause-checked g c = λ known.
    exported (g.S.Sources.texts c.args.sources.now) (exported_in c.args.options.now) c.args.policy.now
    c.args.policy.now c.in_ok-checked.checked _ _ c.export_checked.result refl known c.in_ok-checked.ensures
    c.export_checked.ensures.end c.export_checked.ensures.export
