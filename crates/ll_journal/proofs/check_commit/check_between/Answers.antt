use Rattle.std.proofs.Common.{nat_le, ◌∙◌}
use Rattle.ll_rights.specs.Map.{len}
use Rattle.ll_laws.specs.World as world
use Rattle.ll_journal.specs.CommitCheck.{check_of}
use Rattle.ll_journal.proofs.Stops.{stops_between}
use Rattle.ll_journal.proofs.check_commit.check_between.Goals as goal

-- both legs end in one directory
pub returns-then-not-has_two_paths : goal.returns-then-not-has_two_paths
returns-then-not-has_two_paths c = λ w s spares walks table.
    let some = c.in-Some.ensures.some in
    stops_between c.args.sight.now.table.now.facts (nat_le c.args.sight.now.room (len s.nodes))
    (world.is_marked_by_other w c.args.client) c.args.sight.now.slots.now c.args.sight.now.lent.now
    c.args.spare c.args.call.now c.args.first c.args.second c.in-Some.old c.in-Some.old c.index-sight-old.result
    c.index-sight-old.result some (some.0, some.1, some.2 ∙ c.if-first-second.true)
    c.find_end.result (check_of c.check_there.result c.find_end.result) (c.find_end.ensures s spares table)
    (c.check_there.ensures w walks)

pub returns : goal.returns
returns c = λ w s spares walks table.
    stops_between c.args.sight.now.table.now.facts (nat_le c.args.sight.now.room (len s.nodes))
    (world.is_marked_by_other w c.args.client) c.args.sight.now.slots.now c.args.sight.now.lent.now
    c.args.spare c.args.call.now c.args.first c.args.second c.in-Some.old c.in-Some-find.new c.index-sight-old-2.result
    c.index-sight-new.result c.in-Some.ensures.some c.in-Some-find.ensures.some
    c.find_ends.result (check_of c.check_there-2.result c.find_ends.result) (c.find_ends.ensures s spares table)
    (c.check_there-2.ensures w walks)
