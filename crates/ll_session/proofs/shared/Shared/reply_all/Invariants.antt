use Rattle.std.proofs.Common.{◌<◌, length}
use Rattle.ll_session.specs.CallsRun.{RepliedBeside}
use Rattle.ll_session.proofs.shared.Shared.reply_all.Given as goal

-- the calls so far have their replies
abbrev pub invariant-loop-made : goal.invariant-loop-made
invariant-loop-made g l = record {
  less : l.before < length l.self.party;
  goes : RepliedBeside g.N.Shape.limit l.before l.fn.self.party l.yielded l.replies.items l.self.party;
}
