use Rattle.std.proofs.Common.{◌∷◌, []}
use Rattle.ll_client.proofs.Desks.{desk_seen}
use Rattle.ll_client.proofs.desk.Desk.next_step.Goals as goal

pub put_slot-requires-clause-free : goal.put_slot-requires-clause-free
put_slot-requires-clause-free g c =
    (c.take_client.ensures.gone.out (c.here.inside.number ∷ []) (c.take_slot.ensures.gone.out [] tt).0).0

pub invariant_of-self : goal.invariant_of-self
invariant_of-self g c =
    desk_seen g.N.Shape.slots g.N.Shape.limit g.N.Shape.rules c.self.inside.journal c.self.inside.keeper
    c.give_client.new.keeper c.self.invariant c.give_client.ensures.all
