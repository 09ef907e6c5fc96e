use Rattle.std.proofs.Common.{◌≡◌, map}
use Rattle.ll_wire.proofs.replies.listing_of.Given as goal

abbrev pub invariant-loop-name : goal.invariant-loop-name
invariant-loop-name l = record {
  can_next : (goal.iterator-loop-name).can_next l.name-iterator;
  is_finite : (goal.iterator-loop-name).is_finite l.name-iterator;
  listing : l.listing ≡ map (λ s. s.now) l.yielded;
}
