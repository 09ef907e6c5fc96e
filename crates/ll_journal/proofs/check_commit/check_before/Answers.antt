use Rattle.std.proofs.Common.{ap, sym}
use Rattle.ll_journal.specs.Checks.{stop_by}
use Rattle.ll_journal.proofs.Stops.{stops_before}
use Rattle.ll_journal.proofs.check_commit.check_before.Goals as goal

pub returns-in-None : goal.returns-in-None
returns-in-None c found =
    stops_before c.args.table.now.facts c.args.lent.now c.args.here c.in-Some.place c.index-lent-place.result
    c.args.name.now c.in-Some.ensures.some c.look_up.result c.blocked.result _
    c.look_up.ensures c.blocked.ensures (ap stop_by (sym c.in-None.is))

pub returns-in-Some-blocked : goal.returns-in-Some-blocked
returns-in-Some-blocked c found =
    stops_before c.args.table.now.facts c.args.lent.now c.args.here c.in-Some.place c.index-lent-place.result
    c.args.name.now c.in-Some.ensures.some c.look_up.result c.blocked.result _
    c.look_up.ensures c.blocked.ensures (ap stop_by (sym c.in-Some-blocked.is))
