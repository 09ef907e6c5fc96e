use Rattle.std.proofs.Common.{◌≡◌, ◌≤◌, ◌+◌, ℕ, true, drop}
use Rattle.ll_rights.specs.Map.{has}
use Rattle.ll_seq.specs.State.{State}
use Rattle.ll_seq.specs.declared.reply.Reply.{Reply}
use Rattle.ll_commands.specs.OpenedTree.{Makes, Stops}
use Rattle.ll_commands.proofs.opened_tree.make_all.Given as goal

-- what the calls that are left do is what all do
abbrev pub invariant-loop-call : goal.invariant-loop-call
invariant-loop-call l = record {
  there : has l.tree.clients l.client ≡ true;
  next : l.tree.next ≤ l.initial.tree.next + l.call-index;
  made : l.made ≡ l.call-index;
  makes : (t : State) → Makes l.client l.tree (drop l.call-index l.calls) t → Makes l.client l.initial.tree l.calls t;
  stops : (before all : ℕ) (reply : Reply) → all ≡ l.call-index + before
      → Stops l.client l.tree (drop l.call-index l.calls) before reply
      → Stops l.client l.initial.tree l.calls all reply;
}
