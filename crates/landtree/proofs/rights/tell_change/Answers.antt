use Rattle.ll_program.specs.Rights.{rights_in}
use Rattle.landtree.proofs.TextsTold.{difference_end}
use Rattle.landtree.proofs.rights.tell_change.Goals as goal

pub returns : goal.returns
returns g c =
    difference_end (g.S.Sources.texts c.args.sources.now) (rights_in c.args.options.now) c.args.compared.now.old.now
    c.args.compared.now.profile.now _ _ _ _ c.source-old_file.ensures.left c.source-file.ensures.left
    c.tell_difference-told.result c.tell_difference-told.ensures.told c.tell_difference-told.ensures.failure
