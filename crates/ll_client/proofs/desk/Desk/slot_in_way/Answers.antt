use Rattle.std.specs.Prelude.{◌≡◌, ℕ, IfNone}
use Rattle.std.proofs.Common.{[], subst}
use Rattle.ll_journal.specs.Book.{Book}
use Rattle.ll_journal.specs.InWay.{IsFreeFrom}
use Rattle.ll_client.proofs.Desks.{desk_seen}
use Rattle.ll_client.proofs.desk.Desk.slot_in_way.Goals as goal

pub put_slot-requires-clause-free : goal.put_slot-requires-clause-free
put_slot-requires-clause-free g c = (c.take_slot.ensures.gone.out [] tt).0.0

pub invariant_of-self : goal.invariant_of-self
invariant_of-self g c =
    desk_seen g.N.Shape.slots g.N.Shape.limit g.N.Shape.rules c.self.inside.journal c.self.inside.keeper
    c.put_slot.new.keeper
    c.self.invariant c.put_slot.ensures.all

pub returns-clause-none : goal.returns-clause-none
returns-clause-none g c =
    let number : c.number-client.result ≡ c.args.me.now.number = cc in
    let slot : c.here.inside.number ≡ c.args.here.now.number = cc in
    let book : c.self.inside.journal ≡ c.args.self.now = cc in
    subst (λ (p : Book × (ℕ × ℕ)). IfNone c.slot_in_way-way.result (IsFreeFrom p.0 p.1.0 p.1.1))
    (λ i. (book i, (number i, slot i))) c.slot_in_way-way.ensures.none
