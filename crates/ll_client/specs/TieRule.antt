-- The rule of the table: what its seats know of one another, and what its steps do. own
use Rattle.std.specs.Prelude.{◌≡◌, ℕ, true, List, Some}
use mathlib.Core.Option.{some}
use lib.ListN.{get_elem?}
use Rattle.atomic_table.specs.Table.{Me}
use Rattle.ll_rights.specs.Map.{get, insert, remove}
use Rattle.ll_client.specs.Views.{Known, keeper, showing}

module _ {D : Type 0} where
  -- Two seats are the same if both are the keeper's, or both show entries with one number. The keeper has each entry
  -- that a seat shows
  pub record Agree (i : ℕ) (u : Known D) (j : ℕ) (v : Known D) : Type 0 where
    pub one_keeper : u.keeps ≡ true → v.keeps ≡ true → i ≡ j
    pub kept : (number : ℕ) (x : D) → u.keeps ≡ true → v.shows ≡ Some (number, x) → get u.entries number ≡ Some x
    pub one_pass : (number : ℕ) (x y : D) → u.shows ≡ Some (number, x) → v.shows ≡ Some (number, y) → i ≡ j

  abbrev pub IsTied : List (Known D) → Type 0
  IsTied views =
      (i j : ℕ) (u v : Known D) → get_elem? views i ≡ some u → get_elem? views j ≡ some v → Agree i u j v

  -- the keeper removes the entry that it shows
  abbrev pub TakesEntry : {S : Type 0} → Me S (Known D) → Me S (Known D) → Type 0
  TakesEntry before after =
      (number : ℕ) (x : D) → before.0.shows ≡ Some (number, x)
      → (get before.0.entries number ≡ Some x) × (after ≡ (keeper (remove before.0.entries number), before.1))

  -- the keeper adds a new entry, and shows it
  abbrev pub GivesEntry : {S : Type 0} → ℕ → D → Me S (Known D) → Me S (Known D) → Type 0
  GivesEntry number x before after =
      after ≡ (showing (insert before.0.entries number x) (number, x), before.1)
