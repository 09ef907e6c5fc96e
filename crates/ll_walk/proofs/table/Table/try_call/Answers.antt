use Rattle.std.proofs.Common.{◌∙◌, subst}
use Rattle.std.proofs.lemmas.Result.{IfErr-weaker}
use Rattle.ll_journal.specs.declared.start.Start.{Start}
use Rattle.ll_client.specs.CallStart.{SetsOut}
use Rattle.ll_walk.proofs.Walks.{gained, given_back}
use Rattle.ll_walk.proofs.table.Table.try_call.Goals as goal

pub returns-in-Begun-clause-made : goal.returns-in-Begun-clause-made
returns-in-Begun-clause-made g c =
    gained _ c.args.call c.args.me.now c.start-start.new.me c.lead.result c.lead.new.me c.requires
    (subst (λ (it : Start). SetsOut g.N.Shape.limit c.args.call c.args.me.now it c.start-start.new.me) c.in-Begun.is
    c.start-start.ensures.mine) c.lead.ensures

pub returns-in-Back-clause-back : goal.returns-in-Back-clause-back
returns-in-Back-clause-back g c =
    let same = given_back _ _ _ c.args.call _ _ c.start-start.ensures.step c.in-Back.is in
    let still = subst (λ (it : Start). SetsOut g.N.Shape.limit c.args.call c.args.me.now it c.start-start.new.me)
    c.in-Back.is c.start-start.ensures.mine in
    IfErr-weaker c.on_file.result _ _ (λ back h. (h.0 ∙ same, h.1 ∙ still)) c.on_file.ensures.back
