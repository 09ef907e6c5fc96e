use Rattle.std.specs.Prelude.{ℕ}
use Rattle.std.specs.Ordering.{nat_cmp}
use Rattle.std.specs.Cmp.Lexicographic.{slice_cmp}
use Rattle.std.proofs.Common.{ap, ◌∙◌}
use Rattle.ll_rights.specs.Map.{from_sorted}
use Rattle.ll_rights.proofs.Maps.{from_sorted-empty}
use Rattle.ll_node.specs.Rows.{rows_of}
use Rattle.ll_node.proofs.directory.Directory.new.Goals as goal

pub returns : goal.returns
returns c = ap (λ es. from_sorted (rows_of es)) c.new.ensures.empty ∙ from_sorted-empty ℕ (slice_cmp nat_cmp)
