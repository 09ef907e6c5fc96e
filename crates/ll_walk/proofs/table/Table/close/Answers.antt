use Rattle.std.proofs.Common.{◌≡◌, ℕ, List, map, ap, sym, subst, arith}
use Rattle.ll_seq.specs.History.{Log}
use Rattle.ll_seq.specs.declared.reply.Entry.{Entry}
use Rattle.ll_seq.specs.declared.rules.Rules.{Rules}
use Rattle.ll_client.specs.Closed.{IsClosed}
use Rattle.ll_client.proofs.AllClients.{closed}
use Rattle.ll_walk.proofs.table.Table.close.Goals as goal

pub returns-in-Ok-clause-closed : goal.returns-in-Ok-clause-closed
returns-in-Ok-clause-closed g c = λ nodes size.
    let b = c.into_desk-desk.result in
    let law = c.by_law.ensures in
    let ks = map (λ it. it.rider) c.args.clients.items in
    let room : b.world.room ≡ nodes = (let r = law.room in omega (arith, r, size)) in
    subst (λ (p : Rules × (ℕ × (ℕ × List Entry))). IsClosed p.0 p.1.0 p.1.1.0 p.1.1.1 ks)
    (λ i. (law.rules i, (room i, (law.limit i, ap (λ (log : Log). log.entries) (sym c.in-Ok.ensures.history) i))))
    (closed b.world.rules b.world.room b.world.limit b.world.history ks law.legal c.in-Ok.ensures.clients law.within
    law.numbered)
