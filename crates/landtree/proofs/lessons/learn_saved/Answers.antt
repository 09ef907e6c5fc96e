use Rattle.std.proofs.Common.{◌∙◌, ap}
use Rattle.ll_program.specs.Options.{learn_in}
use Rattle.landtree.proofs.Taught.{by_history}
use Rattle.landtree.proofs.lessons.learn_saved.Goals as goal

pub returns : goal.returns
returns g c =
    let texts = g.S.Sources.texts c.args.sources.now in
    by_history texts (learn_in c.args.options.now) c.args.history.now _ _ _ c.learn_from-ended.result
    (c.source-file.ensures.left ∙ ap texts c.named.ensures) c.learn_from-ended.ensures
