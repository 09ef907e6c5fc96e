-- Layers that lack nothing and have nothing to spare. own
use Rattle.std.specs.Prelude.{◌≡◌, ◌<◌, ℕ, true, not, ◌&&◌, ◌==◌}
use Rattle.ll_rules.specs.Layer.{Layer, has_rule}

-- the layer without one right of one rule
pub record IsWithout (layer : Layer) (inode right : ℕ) (less : Layer) : Type 0 where
  pub handled : less.handled ≡ layer.handled
  pub rules : (other : ℕ) (r : ℕ) → r < 15
      → has_rule less r other ≡ (has_rule layer r other && not ((other == inode) && (r == right)))

-- without any one right of a rule it doesn't pass
abbrev pub AreNeeded : (Layer → Type 0) → Layer → Type 0
AreNeeded Passes layer = (inode right : ℕ) → right < 15 → has_rule layer right inode ≡ true → (less : Layer)
    → IsWithout layer inode right less → Passes less → ⊥
