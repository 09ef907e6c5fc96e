use Rattle.std.specs.Prelude.{Result}
use Rattle.std.proofs.Common.{subst}
use Rattle.ll_program.specs.Rights.{rights_in}
use Rattle.ll_program.specs.declared.failure.Failure.{Failure}
use Rattle.ll_commands.specs.Profiles.{IsAllTables, LacksTables}
use Rattle.ll_commands.specs.RightsEnd.{EndsTold}
use Rattle.landtree.proofs.TextsTold.{ended, told_end}
use Rattle.landtree.proofs.rights.tell_all_profiles.Goals as goal

pub returns-in-Ok : goal.returns-in-Ok
returns-in-Ok g c =
    let texts = g.S.Sources.texts c.args.sources.now in
    let order = rights_in c.args.options.now in
    subst (λ (r : Result (Unit {0}) Failure). EndsTold texts order.policy (IsAllTables order)
    (LacksTables order) (g.W.Write.contents c.args.out.now)
    (g.W.Write.contents c.tell_all_rights-told.new.out) (ended r))
    c.in-Ok.is
    (told_end texts order.policy (IsAllTables order) (LacksTables order) _ _ _ c.source-file.ensures.left
    c.tell_all_rights-told.result c.tell_all_rights-told.ensures.tables c.tell_all_rights-told.ensures.failure)

pub returns : goal.returns
returns g c =
    let texts = g.S.Sources.texts c.args.sources.now in
    let order = rights_in c.args.options.now in
    subst (λ (r : Result (Unit {0}) Failure). EndsTold texts order.policy (IsAllTables order)
    (LacksTables order) (g.W.Write.contents c.args.out.now)
    (g.W.Write.contents c.tell_all_rights-told.new.out) (ended r))
    c.in-Err.is
    (told_end texts order.policy (IsAllTables order) (LacksTables order) _ _ _ c.source-file.ensures.left
    c.tell_all_rights-told.result c.tell_all_rights-told.ensures.tables c.tell_all_rights-told.ensures.failure)
