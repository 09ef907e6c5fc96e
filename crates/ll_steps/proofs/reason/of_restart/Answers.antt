use Rattle.std.proofs.Common.{sym, ◌∙◌}
use Rattle.ll_steps.proofs.ReasonsFound.{else_goes, restart_idle, restart_not, restart_now}
use Rattle.ll_steps.proofs.reason.of_restart.Goals as goal

pub returns-in-Idle : goal.returns-in-Idle
returns-in-Idle c = restart_idle c.args.journal.now.world c.args.client (sym c.station.ensures ∙ c.in-Idle.is)

pub returns-in-Stale : goal.returns-in-Stale
returns-in-Stale c = restart_now c.args.journal.now.world c.args.client (sym c.station.ensures ∙ c.in-Stale.is)

pub returns-in_default : goal.returns-in_default
returns-in_default c =
    restart_not c.args.journal.now.world c.args.client c.station.result (sym c.station.ensures)
    (else_goes c.station.result c.in_default.not-Idle c.in_default.not-Stale)
