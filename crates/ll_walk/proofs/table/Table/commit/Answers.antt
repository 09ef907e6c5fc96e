use Rattle.ll_walk.proofs.table.Table.commit.Goals as goal

pub locked-requires : goal.locked-requires
locked-requires g c = c.in-Some.ensures g.N.Shape.slots c.requires
