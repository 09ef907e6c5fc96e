use Rattle.std.proofs.Common.{◌≡◌, ◌≤◌, ◌+◌, true, drop}
use Rattle.ll_rights.specs.Map.{has}
use Rattle.ll_seq.specs.State.{State}
use Rattle.ll_commands.specs.Why.{Follows}
use Rattle.ll_commands.proofs.commands.make_in_turn.Given as goal

-- what the calls that are left do is what all do
abbrev pub invariant-loop-call : goal.invariant-loop-call
invariant-loop-call l = record {
  there : has l.tree.clients l.client ≡ true;
  next : l.tree.next ≤ l.initial.tree.next + l.call-index;
  follows : (t : State) → Follows l.client l.tree (drop l.call-index l.calls) t
      → Follows l.client l.initial.tree l.calls t;
}
