use Rattle.std.proofs.Common.{length}
use Rattle.std.specs.Prelude.{◌==◌}
use Rattle.std.specs.List.{slice_split}
use Rattle.ll_policy.proofs.Meanings.{IsSoFar}
use Rattle.ll_policy.proofs.meant_rights.rights_meant.Given as goal

abbrev pub invariant-loop-word : goal.invariant-loop-word
invariant-loop-word l = record {
  can_next : (goal.iterator-loop-word).can_next l.word-iterator;
  is_finite : (goal.iterator-loop-word).is_finite l.word-iterator;
  so_far : IsSoFar (slice_split (λ b. b == 44) l.text) (length l.yielded) l.set.0;
}
