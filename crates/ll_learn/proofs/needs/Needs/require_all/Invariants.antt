use Rattle.std.proofs.Common.{◌≡◌, ◌<◌, ℕ, true}
use Rattle.ll_rights.specs.Access.{holds}
use Rattle.ll_rules.specs.Layer.{Layer, grants_on}
use Rattle.ll_learn.specs.Needs.{Meets}
use Rattle.ll_learn.proofs.needs.Needs.require_all.Given as goal

-- so far
abbrev pub invariant-loop-right : goal.invariant-loop-right
invariant-loop-right l = (right : ℕ) → right < l.right-index → holds l.rights.0 right ≡ true → (layer : Layer)
    → Meets (grants_on layer) l.self → grants_on layer l.path right ≡ true
