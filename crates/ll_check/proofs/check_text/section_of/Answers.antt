use Rattle.std.proofs.Common.{sym}
use Rattle.ll_check.proofs.SectionNames.{name_is_text}
use Rattle.ll_check.proofs.check_text.section_of.Goals as goal

pub unreachable-requires : goal.unreachable-requires
unreachable-requires c = c.in-Err.ensures.cases.0 (name_is_text _ (sym c.if-not-is_name.ensures))
