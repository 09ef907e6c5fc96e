-- What a pass holds: a seat of its table that shows an entry, or no seat. own
use Rattle.std.specs.Prelude.{◌≡◌, ⊤, ℕ, List, [], ◌∷◌, Option, None}
use Rattle.atomic_table.specs.Seated.{TableId}
use Rattle.atomic_table.specs.declared.badge.Badge.{Badge}
use Rattle.ll_client.specs.Views.{Known}

-- the name of no table
abbrev pub no_table : TableId
no_table = record {
  words = 0;
  slots = 0;
  views_name = 0;
  atom = 0;
  block = 0;
  offset = 0;
  slot_names = [];
}

module _ {D : Type 0} where
  -- the entry that the only view shows, if any
  abbrev pub shown : List (Known D) → Option (ℕ × D)
  shown [] = None
  shown (v ∷ vs) = v.shows

  -- a seat of the table, or none
  abbrev pub IsSeat : TableId → TableId → List (Known D) → Type 0
  IsSeat table its_table [] = ⊤
  IsSeat table its_table (v ∷ vs) = (its_table ≡ table) × (vs ≡ [])

  abbrev pub IsPass : TableId → Badge (Known D) → Type 0
  IsPass table badge = IsSeat table badge.table_id badge.views
