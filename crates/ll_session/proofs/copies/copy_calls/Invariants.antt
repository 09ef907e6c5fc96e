use Rattle.std.proofs.Common.{◌≡◌, ◌≤◌, length, take, vec_capacity}
use Rattle.ll_session.proofs.copies.copy_calls.Given as goal

-- the calls so far, with room for the others
abbrev pub invariant-loop-call : goal.invariant-loop-call
invariant-loop-call l = record {
  same : l.copies.items ≡ take l.call-index l.fn.calls;
  room : length l.fn.calls ≤ vec_capacity l.copies;
}
