-- Masks: the sets of rights that a domain's layers grant on a chain of inodes, from the root on. Cited by contracts
-- between crates alone. own
use Rattle.std.specs.Prelude.{◌≡◌, ℕ, ◌^◌, ◌<◌, List}
use Rattle.std.specs.List.{AllZip}
use Rattle.ll_rights.specs.Access.{holds}
use Rattle.ll_rules.specs.Layer.{Layer, grants_on}

pub record IsMask (mask : ℕ) (layer : Layer) (inodes : List ℕ) : Type 0 where
  pub known : mask < 2 ^ 15
  pub same : (right : ℕ) → right < 15 → holds mask right ≡ grants_on layer inodes right

abbrev pub AreMasks : List ℕ → List Layer → List ℕ → Type 0
AreMasks masks domain inodes = AllZip (λ mask layer. IsMask mask layer inodes) masks domain
