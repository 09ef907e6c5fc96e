use Rattle.std.proofs.Common.{◌≡◌}
use Rattle.ll_journal.proofs.StaleWalks.{changed_below, overtaken_seat}
use Rattle.ll_journal.proofs.aftermath.overtake.Given as goal

abbrev pub invariant-loop-seat : goal.invariant-loop-seat
invariant-loop-seat l = l.seat-items ≡ changed_below (overtaken_seat l.moved) l.seat-index l.initial.seat-items
