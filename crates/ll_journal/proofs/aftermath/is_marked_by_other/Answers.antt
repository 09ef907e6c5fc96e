use Rattle.std.proofs.Common.{arith, length, refl, sym, ◌<◌, ◌≤◌, ◌∙◌}
use Rattle.std.proofs.lemmas.Option.{slice_get_read}
use Rattle.ll_journal.proofs.StaleWalks.{elsewhere, marked_here, marked_nowhere, none_more, own}
use Rattle.ll_journal.proofs.aftermath.is_marked_by_other.Goals as goal
use Rattle.ll_journal.proofs.aftermath.is_marked_by_other.Goals.{else-place-client-via-then-place-client+else-stands_in}
use Rattle.ll_journal.proofs.aftermath.is_marked_by_other.Goals.{else-place-client-via-else-place-client}

pub returns-then-stands_in : goal.returns-then-stands_in
returns-then-stands_in c = λ w is.
    let within : c.loop-place.place < length c.args.seats.now = omega arith in
    let seat = slice_get_read c.args.seats.now (length c.args.seats.now) c.loop-place.place c.index-seats-place.result
    refl within c.index-seats-place.is in
    sym (marked_here c.args.seats.now c.args.client c.args.inode w is c.loop-place.place c.index-seats-place.result seat
    c.if-place-client.true (sym c.stands_in.ensures ∙ c.if-stands_in.true))

pub loop-place-preserved : goal.loop-place-preserved
loop-place-preserved c =
    let within : c.loop-place.place < length c.args.seats.now = omega arith in
    let seat = slice_get_read c.args.seats.now (length c.args.seats.now) c.loop-place.place c.index-seats-place.result
    refl within c.index-seats-place.is in
    none_more c.args.seats.now c.args.client c.args.inode c.loop-place.place c.index-seats-place.result seat
    (elim c.else-place-client.branch [
      | else-place-client-via-then-place-client+else-stands_in w ↦
          elsewhere c.args.seats.now c.args.client c.args.inode c.loop-place.place c.index-seats-place.result
          (sym w.stands_in.ensures ∙ w.if-stands_in.false)
      | else-place-client-via-else-place-client w ↦
          own c.args.seats.now c.args.client c.args.inode c.loop-place.place c.index-seats-place.result
          w.if-place-client.false
    ])
    c.loop-place.invariant

pub returns : goal.returns
returns c = λ w is.
    let all : length c.args.seats.now ≤ c.loop-place.place = omega arith in
    sym (marked_nowhere c.args.seats.now c.args.client c.args.inode w is c.loop-place.place all c.loop-place.invariant)
