use Rattle.ll_journal.proofs.HeldReplies.{if_copied}
use Rattle.ll_journal.proofs.OwnAnswers.{comes_made, comes_not_made, free_to_make}
use Rattle.ll_journal.proofs.alone.create_ruleset.Goals as goal

pub returns-in-Ok-clause-ok : goal.returns-in-Ok-clause-ok
returns-in-Ok-clause-ok c =
    if_copied _ c.new.result _ c.new.ensures.ok
    (comes_made c.args.abi c.args.client.now c.create_ruleset.new.self c.args.rights c.in-Ok.number
    c.in-Ok.ensures.ok)

pub returns-in-Err-clause-ok : goal.returns-in-Err-clause-ok
returns-in-Err-clause-ok c = comes_not_made c.args.abi c.args.client.now c.create_ruleset.new.self c.args.rights
    c.in-Err.errno c.refusal.result c.in-Err.ensures.refused c.in-Err.ensures.err c.refusal.ensures.ok

pub returns-in-Err-clause-starved : goal.returns-in-Err-clause-starved
returns-in-Err-clause-starved c =
    free_to_make c.args.abi c.args.client.now c.args.rights c.in-Err.errno c.refusal.result c.in-Err.ensures.refused
    c.refusal.ensures.err
