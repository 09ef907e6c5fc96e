use Rattle.std.proofs.Common.{ap, ◌∙◌}
use Rattle.ll_rights.specs.Map.{from_sorted}
use Rattle.ll_rights.proofs.Maps.{from_sorted-empty}
use Rattle.ll_seq.proofs.dentries.Dentries.new.Goals as goal

pub returns : goal.returns
returns c = ap from_sorted c.new.ensures.items ∙ from_sorted-empty _ _
