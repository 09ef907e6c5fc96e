use Rattle.std.proofs.Common.{map, arith}
use Rattle.std.proofs.lemmas.List.{length-map}
use Rattle.ll_session.proofs.Meetings.{meets_last, met_by_last, met_itself}
use Rattle.ll_session.proofs.clients.meet_all.Goals as goal

pub returns-then-last-place : goal.returns-then-last-place
returns-then-last-place g c =
    let both = meets_last (map (λ it. it.rider) c.args.clients.now)
    (map (λ it. it.rider) c.meet_two.new.clients)
    c.args.last c.args.place c.requires.last c.if-last-place.true c.meet_two.ensures in
    record { met = both.0; last = both.1 }

pub returns-then-place-last : goal.returns-then-place-last
returns-then-place-last g c =
    let both = met_by_last (map (λ it. it.rider) c.args.clients.now)
    (map (λ it. it.rider) c.meet_two-then-place-last.new.clients)
    c.args.last c.args.place c.requires.last c.if-place-last.true c.meet_two-then-place-last.ensures in
    record { met = both.0; last = both.1 }

pub returns-else-place-last-clause-met : goal.returns-else-place-last-clause-met
returns-else-place-last-clause-met g c =
    let one = c.if-last-place.false in
    let other = c.if-place-last.false in
    let size = length-map c.args.clients.now (λ it. it.rider) in
    met_itself (map (λ it. it.rider) c.args.clients.now) c.args.last c.args.place c.requires.last (omega arith)
    (let within = c.requires.place in omega (arith, size, within))
