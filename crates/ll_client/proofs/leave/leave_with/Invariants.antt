use Rattle.std.specs.Prelude.{length}
use Rattle.ll_client.specs.Entries.{doing_of, starved_in}
use Rattle.ll_client.specs.Hands.{with_starved}
use Rattle.ll_client.proofs.leave.leave_with.Given as goal

abbrev pub ghost-note_want : goal.ghost-note_want
ghost-note_want g a =
    (g.before, with_starved (starved_in a.wants.now) (length g.before.world.history) (doing_of g.before.world a.number))
