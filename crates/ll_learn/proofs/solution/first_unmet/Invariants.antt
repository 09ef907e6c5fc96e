use Rattle.std.proofs.Common.{◌≡◌, ◌<◌, ℕ, true, take}
use Rattle.std.specs.List.{list_all}
use Rattle.ll_learn.specs.Draft.{is_granted, is_restricted, may_have}
use Rattle.ll_learn.proofs.solution.first_unmet.Given as goal

-- so far
abbrev pub invariant-loop-number : goal.invariant-loop-number
invariant-loop-number l = (right : ℕ) → right < 15 → is_restricted l.scope right ≡ true
    → list_all (is_granted (may_have l.scope right) right) (take l.number l.asks) ≡ true
