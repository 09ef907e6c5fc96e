use Rattle.std.proofs.Common.{cond, ap, sym, ◌∙◌}
use Rattle.ll_path.specs.Path.{parent}
use Rattle.ll_seq.specs.Call.{first_path, second_path}
use Rattle.ll_laws.specs.Walk.{has_two_paths, trunk_path}
use Rattle.ll_journal.specs.declared.station.Station.TheVariants as station
use Rattle.ll_journal.specs.declared.stage.Stage.TheVariants as stage
use Rattle.ll_journal.specs.Book as book
use Rattle.ll_journal.specs.Stations.{station_of}
use Rattle.ll_journal.specs.Seated.{depth_of}
use Rattle.ll_journal.proofs.Ahead.{ended}
use Rattle.ll_journal.proofs.Seats.{trunk_fits, split_fits, station_is}
use Rattle.ll_journal.proofs.seat.Seat.station.Goals as goal

pub returns-in-Down : goal.returns-in-Down
returns-in-Down c =
    c.trunk_station.ensures
    ∙ ap (λ b. cond b (cond (has_two_paths c.in-Some.call) station.Fork station.End) station.Trunk)
    (c.is_at_end.ensures ∙ ended (trunk_path c.in-Some.call) (depth_of c.self.inside.trunk.chain.items)
    c.self.inside.trunk.ahead (trunk_fits c.self.inside c.in-Some.call c.in-Some.is c.in-Down.is
    c.self.invariant.fit).ahead)
    ∙ sym (station_is c.self.inside c.in-Some.call c.in-Some.is c.if-self.false stage.Down c.in-Down.is)
    ∙ ap (λ (s : book.Seat). station_of s.walk) c.self.view_is

pub returns-in-Split : goal.returns-in-Split
returns-in-Split c =
    let fit = split_fits c.self.inside c.in-Some.call c.in-Some.is c.in-Split.is c.self.invariant.fit in
    let first = c.is_at_end-in-Split.ensures
    ∙ ended (parent (first_path c.in-Some.call)) (depth_of c.self.inside.first.chain.items)
    c.self.inside.first.ahead fit.first.ahead in
    let second = c.is_at_end-in-Split-2.ensures
    ∙ ended (parent (second_path c.in-Some.call)) (depth_of c.self.inside.second.chain.items)
    c.self.inside.second.ahead fit.second.ahead in
    c.split_station.ensures
    ∙ (λ i. cond (first i) (cond (second i) station.End station.Second) station.First)
    ∙ sym (station_is c.self.inside c.in-Some.call c.in-Some.is c.if-self.false stage.Split c.in-Split.is)
    ∙ ap (λ (s : book.Seat). station_of s.walk) c.self.view_is
