use Rattle.std.proofs.Common.{ap, ◌∙◌}
use Rattle.ll_program.specs.Options.{why_in}
use Rattle.landtree.proofs.TextsTold.{why_ends}
use Rattle.landtree.proofs.commands.why_options.Goals as goal

pub returns-clause-why : goal.returns-clause-why
returns-clause-why g c fits =
    why_ends (g.S.Sources.texts c.args.sources.now) (why_in c.args.options.now) _ _ _
    (c.source-file.ensures.left ∙ ap (g.S.Sources.texts c.args.sources.now) c.file_asked.ensures)
    c.tell_why-told.result c.tell_why-told.ensures.told c.tell_why-told.ensures.failure
