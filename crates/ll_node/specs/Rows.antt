-- What a table of names means. No public contract cites it. own
use Rattle.std.specs.Prelude.{ℕ, IsTrue, List, map, All, String, string_bytes}
use Rattle.std.specs.Ordering.{nat_cmp}
use Rattle.std.specs.Cmp.Lexicographic.{slice_cmp}
use Rattle.std.specs.BTreeMap.{BTreeMap, keys}
use Rattle.std.specs.FinMap.Entries.{is_sorted}
use Rattle.ll_rights.specs.Map.{from_sorted}
use Rattle.ll_path.specs.Name.{IsName}
use Rattle.ll_node.specs.Slot.{NameMap}

module _ {Y : Type 0} where
  abbrev pub rows_of : List (String Y × ℕ) → List (List ℕ × ℕ)
  rows_of entries = map (λ (e : String Y × ℕ). (string_bytes e.0, e.1)) entries

  abbrev pub names_kept : BTreeMap (String Y) ℕ → NameMap
  names_kept table = from_sorted (rows_of table.entries)

  -- the names strictly increase by their bytes, and each is a valid name
  abbrev pub AreRows : BTreeMap (String Y) ℕ → Type 0
  AreRows table =
      IsTrue (is_sorted (slice_cmp nat_cmp) (rows_of table.entries))
      × All (λ (text : String Y). IsName (string_bytes text)) (keys table)
