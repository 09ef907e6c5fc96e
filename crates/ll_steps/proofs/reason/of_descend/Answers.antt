use Rattle.std.proofs.Common.{ap, sym, ◌∙◌}
use Rattle.ll_steps.specs.Unmet.{has_names}
use Rattle.ll_steps.proofs.ReasonsFound.{descend_ended, descend_forks, descend_idle, descend_stale_now, named_so}
use Rattle.ll_steps.proofs.reason.of_descend.Goals as goal

pub returns-in-Idle : goal.returns-in-Idle
returns-in-Idle c = descend_idle c.args.journal.now.world c.args.client (sym c.station.ensures ∙ c.in-Idle.is)

pub returns-in-Stale : goal.returns-in-Stale
returns-in-Stale c = descend_stale_now c.args.journal.now.world c.args.client (sym c.station.ensures ∙ c.in-Stale.is)

pub returns-in-Fork : goal.returns-in-Fork
returns-in-Fork c = descend_forks c.args.journal.now.world c.args.client (sym c.station.ensures ∙ c.in-Fork.is)

pub returns-in-End : goal.returns-in-End
returns-in-End c = descend_ended c.args.journal.now.world c.args.client (sym c.station.ensures ∙ c.in-End.is)

pub of_entry-requires-clause-top : goal.of_entry-requires-clause-top
of_entry-requires-clause-top c = sym c.station.ensures ∙ c.in-Above.is

pub of_next-requires-clause-more : goal.of_next-requires-clause-more
of_next-requires-clause-more c = ap has_names (sym c.station.ensures) ∙ named_so c.station.result c.in-Trunk.is
