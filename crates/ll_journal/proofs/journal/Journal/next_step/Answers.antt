use Rattle.ll_journal.proofs.NextSteps.{at_stop, leads_so}
use Rattle.ll_journal.proofs.journal.Journal.next_step.Goals as goal

pub returns-then-is_in_turn-clause-comes : goal.returns-then-is_in_turn-clause-comes
returns-then-is_in_turn-clause-comes c =
    let here = c.is_in_turn.ensures.yes c.if-is_in_turn.true in (
      here,
      at_stop c.args.self.now c.args.client c.args.slot c.end_slots.result c.station.result c.station.ensures
          (leads_so c.station.result c.in-Trunk.is)
          c.in_default.ensures.none c.end_slots.ensures.enough c.end_slots.ensures.only here,
    )
