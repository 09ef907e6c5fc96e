use Rattle.ll_wire.proofs.ScheduleTokens.{spells_one_schedule_line}
use Rattle.ll_wire.proofs.grammar.spells_one_schedule_line.Goals as goal

pub returns : goal.returns
returns c = spells_one_schedule_line
