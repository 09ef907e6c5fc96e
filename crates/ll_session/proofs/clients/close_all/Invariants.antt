use Rattle.std.specs.Prelude.{◌≡◌}
use Rattle.ll_session.proofs.clients.close_all.Given as goal

abbrev pub invariant-loop : goal.invariant-loop
invariant-loop g l = l.clients.items ≡ l.fn.clients.items
