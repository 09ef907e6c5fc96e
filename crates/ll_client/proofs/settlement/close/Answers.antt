use Rattle.std.proofs.Common.{map, subst, sym, ◌∙◌}
use Rattle.ll_journal.specs.Book.{Book}
use Rattle.ll_client.specs.Closed.{AreClients}
use Rattle.ll_client.proofs.AllClients.{all_clients, count_mapped}
use Rattle.ll_client.proofs.settlement.close.Goals as goal

pub returns-clause-clients : goal.returns-clause-clients
returns-clause-clients g c =
    let ks = map (λ it. it.rider) c.args.clients.items in
    let done = c.settle.ensures in
    subst (λ (b : Book). AreClients b.world.rules b.world.room b.world.limit b.world.history ks) c.desk.view_is
    (all_clients c.desk.inside.journal ks done.parts done.once done.there
    (count_mapped (λ it. it.rider) c.args.clients.items ∙ sym c.args.clients.ok.0 ∙ sym c.len.ensures
    ∙ sym c.if-clients-len.false ∙ c.clients.ensures))
