use Rattle.std.proofs.Common.{◌≡◌, ◌<◌}
use Rattle.ll_walk.proofs.table.Table.enter.Given as goal

abbrev pub invariant-loop : goal.invariant-loop
invariant-loop g l = (l.me ≡ l.fn.me) × (l.slot < g.N.Shape.slots)
