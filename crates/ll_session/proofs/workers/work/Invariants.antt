use Rattle.std.proofs.Common.{◌≤◌, length, map, vec_capacity}
use Rattle.std.specs.List.{All}
use Rattle.ll_session.specs.Visit.{WasServed}
use Rattle.ll_session.proofs.workers.work.Given as goal

-- what is left of the streams so far
abbrev pub invariant-loop : goal.invariant-loop
invariant-loop g l = record {
  room : l.fn.most ≤ vec_capacity l.room;
  most : length l.room.items ≤ l.counter;
  served : All (λ it. WasServed g.N.Shape.limit l.fn.host.profile.now g.R.Read.remaining g.W.Write.contents it.outcome
      it.came.value it.went.value (map (λ c. c.rider) it.clients.items)) l.room.items;
}
