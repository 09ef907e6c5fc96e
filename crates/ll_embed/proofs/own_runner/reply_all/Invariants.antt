use Rattle.std.proofs.Common.{◌≤◌}
use Rattle.ll_session.specs.CallsRun.{Replied}
use Rattle.ll_embed.specs.Alone.{own}
use Rattle.ll_embed.proofs.own_runner.reply_all.Given as goal

-- the calls so far have their replies
abbrev pub invariant-loop-made : goal.invariant-loop-made
invariant-loop-made l = record {
  some : 1 ≤ l.tree.clients;
  goes : Replied (own l.fn.tree) l.yielded l.replies.items (own l.tree);
}
