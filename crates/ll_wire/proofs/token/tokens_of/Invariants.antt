use Rattle.std.proofs.Common.{◌≡◌, ◌≤◌, map, length, take}
use Rattle.ll_wire.proofs.token.tokens_of.Given as goal

abbrev pub invariant-loop-token : goal.invariant-loop-token
invariant-loop-token l = record {
  can_next : (goal.iterator-loop-token).can_next l.token-iterator;
  is_finite : (goal.iterator-loop-token).is_finite l.token-iterator;
  count : l.count ≡ length l.yielded;
  fits : l.count ≤ length l.tokens;
  tokens : map (λ s. s.now) (take l.count l.tokens) ≡ map (λ s. s.now) l.yielded;
}
