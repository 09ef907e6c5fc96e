use Rattle.std.proofs.Common.{◌≡◌, List, ℕ, Option, Result, true, sym, subst}
use Rattle.ll_program.specs.Failure.{EndsExport}
use Rattle.ll_program.specs.Options.{checked_in, exported_in, fits_check, fits_export, is_checked, ordered_in}
use Rattle.ll_program.specs.declared.options.Options.{Options}
use Rattle.ll_check.specs.Ends.{EndsCheck}
use Rattle.landtree.specs.Checked.{EndsChecked, WritesExport}
use Rattle.landtree.specs.Ends.{Ends}
use Rattle.landtree.proofs.Fits.{fitting}
use Rattle.landtree.proofs.carry_out.Goals as goal

pub returns-in-Check : goal.returns-in-Check
returns-in-Check g c =
    let texts = g.S.Sources.texts c.args.sources.now in
    let out = g.W.Write.contents c.args.out.now in
    let out' = g.W.Write.contents c.check_options.new.out in
    let order = checked_in c.in-Check.options in
    subst (λ (o : Options). Ends texts (ordered_in o) out out' c.check_options.result) (sym c.in-Check.is)
    (fitting (fits_check order) (EndsCheck texts order out out' c.check_options.result) out out'
    c.check_options.result c.check_options.ensures.unfit c.check_options.ensures.check)

pub returns-in-Export : goal.returns-in-Export
returns-in-Export g c =
    let texts = g.S.Sources.texts c.args.sources.now in
    let out = g.W.Write.contents c.args.out.now in
    let out' = g.W.Write.contents c.export_options.new.out in
    let order = exported_in c.in-Export.options in
    let told = c.export_options.ensures in
    subst (λ (o : Options). Ends texts (ordered_in o) out out' c.export_options.result) (sym c.in-Export.is)
    (fitting (fits_export order) (EndsExport (is_checked order) c.export_options.result
    × WritesExport texts order out out' c.export_options.result
    × (is_checked order ≡ true → EndsChecked texts order out out' c.export_options.result)) out out'
    c.export_options.result told.unfit (λ fit. (told.export fit, told.written fit, told.checked fit)))
