use Rattle.std.proofs.Common.{◌≡◌}
use Rattle.ll_walk.proofs.table.Table.call.Given as goal

abbrev pub invariant-loop : goal.invariant-loop
invariant-loop g l = (l.rider ≡ l.fn.me.rider) × (l.call ≡ l.fn.call)
