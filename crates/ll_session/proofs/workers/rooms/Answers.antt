use Rattle.ll_session.proofs.workers.rooms.Goals as goal

pub free-requires : goal.free-requires
free-requires g c = λ k d below. (c.loop.invariant.room k d below).0
