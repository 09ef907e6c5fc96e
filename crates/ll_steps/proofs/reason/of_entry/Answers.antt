use Rattle.std.proofs.Common.{sym, ◌∙◌}
use Rattle.ll_steps.proofs.ReasonsFound.{root_early, root_gated, root_marked, root_open, root_own}
use Rattle.ll_steps.proofs.reason.of_entry.Goals as goal

pub returns-in-Some : goal.returns-in-Some
returns-in-Some c = root_marked c.args.journal.now c.requires.sound c.args.client c.requires.top c.in-Some.other
    (sym c.marker.ensures ∙ c.in-Some.is)

pub returns-then-starts-ne4 : goal.returns-then-starts-ne4
returns-then-starts-ne4 c =
    root_early c.args.journal.now c.requires.sound c.args.client c.requires.top (sym c.marker.ensures ∙ c.in_default.is)
    c.starts.result c.starts.ensures c.if-starts-ne4.true

pub returns-then-holder-client : goal.returns-then-holder-client
returns-then-holder-client c =
    root_own c.args.journal.now c.requires.sound c.args.client c.requires.top (sym c.marker.ensures ∙ c.in_default.is)
    c.in-Some-gate.holder (sym c.gate.ensures ∙ c.in-Some-gate.is) c.if-holder-client.true

pub returns-in-None : goal.returns-in-None
returns-in-None c =
    root_open c.args.journal.now c.requires.sound c.args.client c.requires.top (sym c.marker.ensures ∙ c.in_default.is)
    (sym c.gate.ensures ∙ c.in-None.is)

pub returns-else-holder-client : goal.returns-else-holder-client
returns-else-holder-client c =
    root_gated c.args.journal.now c.requires.sound c.args.client c.requires.top c.starts.result c.in-Some-gate.holder
    c.starts.ensures c.if-starts-ne4.false (sym c.gate.ensures ∙ c.in-Some-gate.is) c.if-holder-client.false
