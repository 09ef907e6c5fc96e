use Rattle.std.proofs.Common.{length}
use Rattle.std.specs.Prelude.{◌==◌}
use Rattle.std.specs.List.{slice_split}
use Rattle.ll_rights.proofs.RightNames.{ReadSoFar}
use Rattle.ll_rights.proofs.access.Access.parse_names.Given as goal

abbrev pub invariant-loop-name : goal.invariant-loop-name
invariant-loop-name l = record {
  can_next : (goal.iterator-loop-name).can_next l.name-iterator;
  is_finite : (goal.iterator-loop-name).is_finite l.name-iterator;
  read : ReadSoFar (slice_split (λ b. b == 44) l.text) (length l.yielded) l.set.0;
}
