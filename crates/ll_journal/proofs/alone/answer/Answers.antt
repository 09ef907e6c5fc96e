use Rattle.std.specs.Prelude.{refl}
use Rattle.ll_journal.proofs.HeldReplies.{if_copied}
use Rattle.ll_journal.proofs.OwnAnswers.{comes_refused}
use Rattle.ll_journal.proofs.alone.answer.Goals as goal

pub returns-in-Refused-clause-ok : goal.returns-in-Refused-clause-ok
returns-in-Refused-clause-ok c =
    if_copied _ c.new.result _ c.new.ensures.ok
    (comes_refused c.args.abi c.args.client.now _ c.args.asked c.in-Refused.errno c.in-Refused.is refl)
