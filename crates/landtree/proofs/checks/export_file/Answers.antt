use Rattle.std.specs.Prelude.{Result}
use Rattle.std.proofs.Common.{subst}
use Rattle.ll_program.specs.Options.{exported_in}
use Rattle.ll_program.specs.declared.failure.Failure.{Failure}
use Rattle.landtree.specs.Checked.{WritesExport}
use Rattle.landtree.proofs.Exported.{export_written}
use Rattle.landtree.proofs.TextsTold.{ended, of_source}
use Rattle.landtree.proofs.checks.export_file.Goals as goal

pub returns-in-Ok-clause-written : goal.returns-in-Ok-clause-written
returns-in-Ok-clause-written g c =
    let texts = g.S.Sources.texts c.args.sources.now in
    let order = exported_in c.args.options.now in
    let out = g.W.Write.contents c.args.out.now in
    let out' = g.W.Write.contents c.export-told.new.out in
    subst (λ (r : Result (Unit {0}) Failure). WritesExport texts order out out' (ended r)) c.in-Ok.is
    (export_written texts order _ out out' (of_source texts c.source-file.ensures.left) c.export-told.result
    c.export-told.ensures.export c.export-told.ensures.nothing c.export-told.ensures.broken)

pub returns-clause-written : goal.returns-clause-written
returns-clause-written g c =
    let texts = g.S.Sources.texts c.args.sources.now in
    let order = exported_in c.args.options.now in
    let out = g.W.Write.contents c.args.out.now in
    let out' = g.W.Write.contents c.export-told.new.out in
    subst (λ (r : Result (Unit {0}) Failure). WritesExport texts order out out' (ended r)) c.in-Err.is
    (export_written texts order _ out out' (of_source texts c.source-file.ensures.left) c.export-told.result
    c.export-told.ensures.export c.export-told.ensures.nothing c.export-told.ensures.broken)
