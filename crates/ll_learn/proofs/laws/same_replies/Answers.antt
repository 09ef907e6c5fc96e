use Rattle.ll_learn.proofs.SameReplies.{same_replies}
use Rattle.ll_learn.proofs.laws.same_replies.Goals as goal

pub returns : goal.returns
returns c = same_replies
