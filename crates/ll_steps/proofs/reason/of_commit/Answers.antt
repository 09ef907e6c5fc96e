use Rattle.std.proofs.Common.{ap, sym, ◌∙◌}
use Rattle.ll_steps.specs.Unmet.{has_names}
use Rattle.ll_steps.proofs.ReasonsFound.{commit_above, commit_forks, commit_idle, commit_stale_now, named_so}
use Rattle.ll_steps.proofs.reason.of_commit.Goals as goal

pub returns-in-Idle : goal.returns-in-Idle
returns-in-Idle c = commit_idle c.args.journal.now.world c.args.client (sym c.station.ensures ∙ c.in-Idle.is)

pub returns-in-Stale : goal.returns-in-Stale
returns-in-Stale c = commit_stale_now c.args.journal.now.world c.args.client (sym c.station.ensures ∙ c.in-Stale.is)

pub returns-in-Above : goal.returns-in-Above
returns-in-Above c = commit_above c.args.journal.now.world c.args.client (sym c.station.ensures ∙ c.in-Above.is)

pub returns-in-Fork : goal.returns-in-Fork
returns-in-Fork c = commit_forks c.args.journal.now.world c.args.client (sym c.station.ensures ∙ c.in-Fork.is)

pub of_end-requires-clause-ended : goal.of_end-requires-clause-ended
of_end-requires-clause-ended c = sym c.station.ensures ∙ c.in-End.is

pub of_way-requires-clause-more : goal.of_way-requires-clause-more
of_way-requires-clause-more c = ap has_names (sym c.station.ensures) ∙ named_so c.station.result c.in-Trunk.is
