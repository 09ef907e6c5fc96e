use Rattle.std.proofs.Common.{◌≡◌, ◌≤◌, ◌+◌, ℕ, drop, length}
use Rattle.ll_seq.specs.declared.reply.Reply.{Reply}
use Rattle.ll_session.specs.FirstClients.{Makes, Stops}
use Rattle.ll_session.specs.PartySession.{Session}
use Rattle.ll_embed.specs.Alone.{own}
use Rattle.ll_embed.proofs.own_tree.OwnTree.make.Given as goal

-- what the calls that are left lead to, all calls do
abbrev pub invariant-loop-call : goal.invariant-loop-call
invariant-loop-call l = record {
  alone : l.self.before ≡ 0;
  clients : l.fn.self.clients ≤ l.self.clients;
  makes : (t : Session) → Makes l.client (own l.self) (drop (length l.yielded) l.fn.calls.items) t
      → Makes l.client (own l.fn.self) l.fn.calls.items t;
  made : l.made ≡ length l.yielded;
  stops : (number all : ℕ) (reply : Reply) (t : Session) → all ≡ length l.yielded + number
      → Stops l.client (own l.self) (drop (length l.yielded) l.fn.calls.items) number reply t
      → Stops l.client (own l.fn.self) l.fn.calls.items all reply t;
}
