use Rattle.std.proofs.Common.{◌≡◌, ◌≤◌, length}
use Rattle.ll_session.proofs.FirstComers.{MakesSome}
use Rattle.ll_session.proofs.calls.make_calls.Given as goal

abbrev pub invariant-loop-call : goal.invariant-loop-call
invariant-loop-call g l = record {
  made : l.made ≡ length l.yielded;
  more : length l.fn.party ≤ length l.party;
  goes : MakesSome g.N.Shape.limit l.place l.fn.calls.items (length l.yielded) l.fn.party l.party;
}
