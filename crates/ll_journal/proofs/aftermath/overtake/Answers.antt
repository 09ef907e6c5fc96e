use Rattle.std.proofs.Common.{ap, arith, length, map, slice_set, ◌<◌, ◌≤◌, ◌∙◌}
use Rattle.std.proofs.lemmas.List.{take_at}
use Rattle.std.proofs.lemmas.Option.{slice_get-get_or}
use Rattle.ll_journal.proofs.StaleWalks.{all_changed, one_changed, overtaken_seat}
use Rattle.ll_journal.proofs.aftermath.overtake.Goals as goal

pub loop-seat-preserved : goal.loop-seat-preserved
loop-seat-preserved c =
    let within : c.loop-seat.seat-index < length c.loop-seat.seat-items = omega arith in
    ap (slice_set c.loop-seat.seat-items c.loop-seat.seat-index) c.overtake.ensures
    ∙ one_changed (overtaken_seat c.args.moved.now) c.deref_mut-seat-items.result.now c.loop-seat.seat-items
    c.loop-seat.seat-index _ c.loop-seat.invariant
    (slice_get-get_or c.loop-seat.seat-items c.loop-seat.seat-index c.seat-item.result within)

pub returns : goal.returns
returns c =
    let all : length c.deref_mut-seat-items.result.now ≤ c.loop-seat.seat-index = omega arith in
    take_at c.loop-seat.seat-items _ c.args.seats.now.len (omega arith)
    ∙ c.loop-seat.invariant
    ∙ all_changed (overtaken_seat c.args.moved.now) c.deref_mut-seat-items.result.now c.loop-seat.seat-index all
    ∙ ap (map (overtaken_seat c.args.moved.now)) c.deref_mut-seat-items.ensures.value
