use Rattle.std.proofs.Common.{sym, ◌∙◌}
use Rattle.ll_steps.proofs.ReasonsFound.{fork_idle, fork_now, fork_past, fork_stale_now, past_so}
use Rattle.ll_steps.proofs.reason.of_fork.Goals as goal

pub returns-in-Idle : goal.returns-in-Idle
returns-in-Idle c = fork_idle c.args.journal.now.world c.args.client (sym c.station.ensures ∙ c.in-Idle.is)

pub returns-in-Stale : goal.returns-in-Stale
returns-in-Stale c = fork_stale_now c.args.journal.now.world c.args.client (sym c.station.ensures ∙ c.in-Stale.is)

pub returns-in-Fork : goal.returns-in-Fork
returns-in-Fork c = fork_now c.args.journal.now.world c.args.client (sym c.station.ensures ∙ c.in-Fork.is)

pub of_top-requires : goal.of_top-requires
of_top-requires c = sym c.station.ensures ∙ c.in-Above.is

pub of_trunk-requires-clause-trunk : goal.of_trunk-requires-clause-trunk
of_trunk-requires-clause-trunk c = sym c.station.ensures ∙ c.in-Trunk.is

pub of_ended-requires : goal.of_ended-requires
of_ended-requires c = sym c.station.ensures ∙ c.in-End.is

pub returns-in-First : goal.returns-in-First
returns-in-First c = fork_past c.args.journal.now.world c.args.client c.station.result (sym c.station.ensures)
    (past_so c.station.result c.in-First.is)
