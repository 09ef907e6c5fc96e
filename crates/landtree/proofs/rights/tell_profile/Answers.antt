use Rattle.std.specs.Prelude.{Result}
use Rattle.std.proofs.Common.{subst}
use Rattle.ll_program.specs.Rights.{rights_in}
use Rattle.ll_program.specs.declared.failure.Failure.{Failure}
use Rattle.ll_commands.specs.Rights.{IsTable, LacksTable}
use Rattle.ll_commands.specs.RightsEnd.{EndsTold}
use Rattle.landtree.proofs.TextsTold.{ended, told_end}
use Rattle.landtree.proofs.rights.tell_profile.Goals as goal

pub returns-in-Ok : goal.returns-in-Ok
returns-in-Ok g c =
    let texts = g.S.Sources.texts c.args.sources.now in
    let order = rights_in c.args.options.now in
    let profile = c.args.profile.now in
    subst (λ (r : Result (Unit {0}) Failure). EndsTold texts order.policy (IsTable order profile)
    (LacksTable order profile) (g.W.Write.contents c.args.out.now)
    (g.W.Write.contents c.tell_rights-told.new.out) (ended r))
    c.in-Ok.is
    (told_end texts order.policy (IsTable order profile) (LacksTable order profile) _ _ _ c.source-file.ensures.left
    c.tell_rights-told.result c.tell_rights-told.ensures.table c.tell_rights-told.ensures.failure)

pub returns : goal.returns
returns g c =
    let texts = g.S.Sources.texts c.args.sources.now in
    let order = rights_in c.args.options.now in
    let profile = c.args.profile.now in
    subst (λ (r : Result (Unit {0}) Failure). EndsTold texts order.policy (IsTable order profile)
    (LacksTable order profile) (g.W.Write.contents c.args.out.now)
    (g.W.Write.contents c.tell_rights-told.new.out) (ended r))
    c.in-Err.is
    (told_end texts order.policy (IsTable order profile) (LacksTable order profile) _ _ _ c.source-file.ensures.left
    c.tell_rights-told.result c.tell_rights-told.ensures.table c.tell_rights-told.ensures.failure)
