-- What a table of rules means, for a layer's model and invariant: no public contract cites this file.
use Rattle.std.specs.Prelude.{◌≡◌, ◌<◌, ℕ, IsTrue, List, None, map}
use Rattle.std.specs.Ordering.{nat_cmp}
use Rattle.std.specs.BTreeMap.{BTreeMap}
use Rattle.std.specs.FinMap.Entries.{is_sorted}
use Rattle.ll_rights.specs.declared.access.Access.{Access}
use Rattle.ll_rights.specs.Map.{Map, from_sorted, get}

abbrev pub rows_of : List (ℕ × Access) → List (ℕ × ℕ)
rows_of entries = map (λ (rule : ℕ × Access). (rule.0, rule.1.0)) entries

abbrev pub rules_of : BTreeMap ℕ Access → Map nat_cmp ℕ
rules_of table = from_sorted (rows_of table.entries)

-- the inodes strictly increase
abbrev pub IsTable : BTreeMap ℕ Access → Type 0
IsTable table = IsTrue (is_sorted nat_cmp (rows_of table.entries))

abbrev pub HasNoneAbove : ℕ → BTreeMap ℕ Access → Type 0
HasNoneAbove highest table = (inode : ℕ) → highest < inode → get (rules_of table) inode ≡ None
