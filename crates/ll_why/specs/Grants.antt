-- Which rights one layer grants on a path, and by which rules. own
use Rattle.std.specs.Prelude.{◌≡◌, ℕ, ◌<◌, ◌≤◌, Bool, not, ◌&&◌, List, length, take, Some, slice_get}
use Rattle.std.specs.List.{list_any}
use Rattle.ll_rights.specs.Access.{holds}
use Rattle.ll_rules.specs.Layer.{Layer, grants_on, has_rule, restricts}
use Rattle.ll_why.specs.declared.grants.Grants.{Grants}
use Rattle.ll_why.specs.declared.grants.Ruled.{Ruled}

-- the rule on the inode after these allows the right, and no rule on these does
abbrev pub is_first : Layer → List ℕ → ℕ → ℕ → Bool
is_first layer before inode right = not (list_any (has_rule layer right) before) && has_rule layer right inode

-- Each of the rights is in one of three groups: not restricted by the layer; allowed by a rule; not granted on a path
-- with these inodes. A rule is given by its inode's place on the path. If several allow a right, only the one nearest
-- the root has it. No other rights are included
pub record AreGrants (layer : Layer) (inodes : List ℕ) (rights : ℕ) (g : Grants) : Type 0 where
  pub fewer : (g.free.0 ≤ rights) × (g.missing.0 ≤ rights)
  pub free : (right : ℕ) → right < 15 → holds g.free.0 right ≡ (holds rights right && not (restricts layer right))
  pub missing : (right : ℕ) → right < 15
      → holds g.missing.0 right ≡ (holds rights right && not (grants_on layer inodes right))
  pub places : length g.ruled.items ≡ length inodes
  pub ruled : (place : ℕ) (r : Ruled) → slice_get g.ruled.items place ≡ Some r →
      (slice_get inodes place ≡ Some r.inode) × (r.rights.0 ≤ rights)
      × ((right : ℕ) → right < 15 → holds r.rights.0 right
      ≡ ((holds rights right && restricts layer right) && is_first layer (take place inodes) r.inode right))
