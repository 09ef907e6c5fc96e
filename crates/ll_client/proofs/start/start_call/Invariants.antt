use Rattle.std.specs.Prelude.{length, Some}
use Rattle.ll_client.specs.Entries.{starved_in}
use Rattle.ll_client.specs.Hands.{with_starved}
use Rattle.ll_client.proofs.start.start_call.Given as goal

abbrev pub ghost-note_want : goal.ghost-note_want
ghost-note_want g a =
    (g.asked.0, with_starved (starved_in a.wants.now) (length g.asked.0.world.history) (Some g.asked.1))
