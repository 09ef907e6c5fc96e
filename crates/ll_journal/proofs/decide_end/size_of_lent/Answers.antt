use Rattle.ll_journal.proofs.decide_end.size_of_lent.Goals as goal

pub returns-in-None : goal.returns-in-None
returns-in-None c s lends = absurd (c.in-None.ensures s lends)
