use Rattle.ll_rights.proofs.access.Access.is_within.Goals as goal

pub returns : goal.returns
returns c = c.contains.ensures tt
