use Rattle.std.proofs.Common.{arith, length, refl, sym, ◌<◌, ◌≤◌, ◌∙◌}
use Rattle.std.proofs.lemmas.Option.{slice_get_read}
use Rattle.ll_journal.proofs.Markers.{nobody_marks, nobody_more, seat_marks}
use Rattle.ll_journal.proofs.aftermath.marker.Goals as goal

pub returns-then-stands_in-clause-some : goal.returns-then-stands_in-clause-some
returns-then-stands_in-clause-some c = λ w is.
    let within : c.loop-place.place < length c.args.seats.now = omega arith in
    let seat = slice_get_read c.args.seats.now (length c.args.seats.now) c.loop-place.place c.index-seats-place.result
    refl within c.index-seats-place.is in
    seat_marks c.args.seats.now c.args.inode w is c.loop-place.place c.index-seats-place.result seat
    (sym c.stands_in.ensures ∙ c.if-stands_in.true)

pub loop-place-preserved : goal.loop-place-preserved
loop-place-preserved c =
    let within : c.loop-place.place < length c.args.seats.now = omega arith in
    let seat = slice_get_read c.args.seats.now (length c.args.seats.now) c.loop-place.place c.index-seats-place.result
    refl within c.index-seats-place.is in
    nobody_more c.args.seats.now c.args.inode c.loop-place.place c.index-seats-place.result seat
    (sym c.stands_in.ensures ∙ c.if-stands_in.false) c.loop-place.invariant

pub returns-clause-none : goal.returns-clause-none
returns-clause-none c = λ w is client.
    let all : length c.args.seats.now ≤ c.loop-place.place = omega arith in
    nobody_marks c.args.seats.now c.args.inode w is c.loop-place.place all c.loop-place.invariant client
