use Rattle.ll_session.proofs.CallsRuns.{replied_so}
use Rattle.ll_session.proofs.calls_run.reply_and_close.Goals as goal

pub returns-in-Ok-clause-replies : goal.returns-in-Ok-clause-replies
returns-in-Ok-clause-replies g c room slots = (
  c.reply_all-replies.new.self.party,
  c.close-history.ensures.closed room slots,
  replied_so g.N.Shape.rules room g.N.Shape.limit c.args.before c.args.shared.party
      c.reply_all-replies.new.self.party c.args.calls.items c.in-Ok.replies.items c.requires c.in-Ok.ensures,
)
