-- The inodes whose rules have one right, as a list. Cited by contracts between functions of the crate. own
use Rattle.std.specs.Prelude.{◌≡◌, ◌||◌, ℕ, Bool, true, false, ◌+◌, List, [], ◌∷◌, length, slice_index_or}
use Rattle.std.specs.Prelude.{All}
use Rattle.ll_learn.specs.Needs.{StartsAtRoot}
use Rattle.ll_learn.specs.declared.needs.Moved.{Moved}

abbrev pub is_at : List Bool → ℕ → Bool
is_at held inode = slice_index_or held inode false

-- on how many inodes rules have the right, and on how many they don't
abbrev pub held_count : List Bool → ℕ
held_count [] = 0
held_count (true ∷ held) = 1 + held_count held
held_count (false ∷ held) = held_count held

abbrev pub free_count : List Bool → ℕ
free_count [] = 0
free_count (true ∷ held) = free_count held
free_count (false ∷ held) = 1 + free_count held

-- rules still have the right on the old inodes, and on others only where they may
pub record Grows (may : ℕ → Bool) (old new : List Bool) : Type 0 where
  pub len : length new ≡ length old
  pub kept : (inode : ℕ) → is_at old inode ≡ true → is_at new inode ≡ true
  pub within : (inode : ℕ) → is_at new inode ≡ true → (is_at old inode || may inode) ≡ true

-- rules have the right only on old inodes
pub record Shrinks (old new : List Bool) : Type 0 where
  pub len : length new ≡ length old
  pub within : (inode : ℕ) → is_at new inode ≡ true → is_at old inode ≡ true

-- each node's own path begins at the root
abbrev pub AreFromRoot : List Moved → Type 0
AreFromRoot moves = All (λ (m : Moved). StartsAtRoot m.from.items) moves
