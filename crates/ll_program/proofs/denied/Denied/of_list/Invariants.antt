use Rattle.std.proofs.Common.{◌≡◌, drop, length}
use Rattle.std.specs.Prelude.{◌==◌}
use Rattle.std.specs.List.{slice_split}
use Rattle.ll_program.specs.Options.{denied_all, denied_by}
use Rattle.ll_program.proofs.denied.Denied.of_list.Given as goal

-- the words that are still to come decide
abbrev pub invariant-loop-word : goal.invariant-loop-word
invariant-loop-word l = record {
  can_next : (goal.iterator-loop-word).can_next l.word-iterator;
  is_finite : (goal.iterator-loop-word).is_finite l.word-iterator;
  read : denied_by l.list ≡ denied_all l.denied (drop (length l.yielded) (slice_split (λ b. b == 44) l.list));
}
