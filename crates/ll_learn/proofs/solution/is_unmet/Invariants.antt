use Rattle.std.proofs.Common.{◌≡◌, ◌<◌, ℕ, true}
use Rattle.ll_learn.specs.Draft.{is_granted, is_restricted, may_have}
use Rattle.ll_learn.proofs.solution.is_unmet.Given as goal

-- so far
abbrev pub invariant-loop-right : goal.invariant-loop-right
invariant-loop-right l = (right : ℕ) → right < l.right-index → is_restricted l.scope right ≡ true
    → is_granted (may_have l.scope right) right l.asked ≡ true
