use Rattle.std.proofs.Common.{◌≡◌}
use Rattle.ll_walk.specs.Sections.{IsReady, leg_at}
use Rattle.ll_walk.proofs.table.Table.start.Given as goal

abbrev pub invariant-loop : goal.invariant-loop
invariant-loop g l =
    (l.me ≡ l.fn.me)
    × IsReady g.N.Shape.slots l.me.doing (leg_at l.split.seen l.split.common l.split.first l.split.second) l.next
