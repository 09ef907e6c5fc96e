use Rattle.ll_audit.proofs.saved.take.Goals as goal

pub returns-in-Ok-clause-ok : goal.returns-in-Ok-clause-ok
returns-in-Ok-clause-ok c = (c.in_ok-entry.entry, c.in_ok-entry.ensures.ok, c.in-Ok.ensures.items)
