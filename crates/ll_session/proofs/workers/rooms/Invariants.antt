use Rattle.std.proofs.Common.{◌≡◌, ◌≤◌, length, vec_capacity}
use Rattle.std.specs.List.{All}
use Rattle.ll_session.specs.Rooms.{IsRoomFor}
use Rattle.ll_session.proofs.workers.rooms.Given as goal

-- the rooms so far
abbrev pub invariant-loop : goal.invariant-loop
invariant-loop g l = record {
  place : l.fn.workers ≤ vec_capacity l.rooms;
  workers : length l.rooms.items ≡ l.counter;
  room : All (IsRoomFor l.fn.most) l.rooms.items;
}
