-- What std's table of rules says of the map that it means.
use Rattle.std.specs.Prelude.{◌≡◌, ◌≢◌, ℕ, true, false, cond, max, List, [], ◌∷◌, length, Some, refl}
use Rattle.std.specs.declared.cmp.Ordering.TheVariants.{Less, Equal, Greater}
use Rattle.std.specs.Ordering.{nat_cmp, is_eq, match_ordering}
use Rattle.std.specs.Option.{option_map}
use Rattle.std.specs.BTreeMap.{BTreeMap, insert_entry, is_at, get_by}
use Rattle.std.specs.Map.{lookup}
use Rattle.std.specs.FinMap.Entries.{by_order, put, find, is_sorted}
use Rattle.std.proofs.Common.{sym, ap, ◌∙◌, arith}
use Rattle.std.specs.FinMap.{nat_cmp-IsAntisymmetric}
use Rattle.std.proofs.lemmas.Cmp.{nat_cmp_total}
use Rattle.std.proofs.lemmas.List.{length-map}
use Rattle.ll_rights.specs.declared.access.Access.{Access}
use Rattle.ll_rights.specs.Map.{Map, get, insert, entries, from_sorted}
use Rattle.ll_rights.proofs.Maps.{get-empty, get-from_sorted, entries-from_sorted, from_sorted-empty}
use Rattle.ll_rights.proofs.Maps.{put_sorted, insert-from_sorted, get-insert_other}
use Rattle.ll_rules.specs.RuleTable.{rows_of, rules_of, IsTable, HasNoneAbove}

find-rows : (es : List (ℕ × Access)) (inode : ℕ)
    → find nat_cmp inode (rows_of es) ≡ option_map (λ (rights : Access). rights.0) (lookup (is_at (nat_cmp inode)) es)
find-rows [] inode = refl
find-rows (e ∷ es) inode =
    elim (is_eq (nat_cmp inode e.0)) as
    (λ b. cond b (Some e.1.0) (find nat_cmp inode (rows_of es))
    ≡ option_map (λ (rights : Access). rights.0) (cond b (Some e.1) (lookup (is_at (nat_cmp inode)) es))) [
      | true ↦ refl
      | false ↦ find-rows es inode
    ]

rows-insert : (es : List (ℕ × Access)) (inode : ℕ) (rights : Access)
    → rows_of (insert_entry nat_cmp es inode rights) ≡ put nat_cmp inode rights.0 (rows_of es)
rows-insert [] inode rights = refl
rows-insert (e ∷ es) inode rights =
    elim (nat_cmp inode e.0) as (λ r. rows_of
    (match_ordering r ((inode, rights) ∷ e ∷ es) ((e.0, rights) ∷ es) (e ∷ insert_entry nat_cmp es inode rights))
    ≡ by_order r ((inode, rights.0) ∷ (e.0, e.1.0) ∷ rows_of es) ((e.0, rights.0) ∷ rows_of es)
    ((e.0, e.1.0) ∷ put nat_cmp inode rights.0 (rows_of es))) [
      | Less ↦ refl
      | Equal ↦ refl
      | Greater ↦ ap (λ rest. (e.0, e.1.0) ∷ rest) (rows-insert es inode rights)
    ]

-- the rights on an inode are those that the table finds
pub get-rules_of : (table : BTreeMap ℕ Access) (inode : ℕ) → IsTable table
    → get (rules_of table) inode ≡ option_map (λ (rights : Access). rights.0) (get_by (nat_cmp inode) table)
get-rules_of table inode sorted =
    get-from_sorted nat_cmp (rows_of table.entries) inode sorted ∙ find-rows table.entries inode

pub none_above-new : (table : BTreeMap ℕ Access) (highest : ℕ) → table.entries ≡ [] → HasNoneAbove highest table
none_above-new table highest is inode above =
    ap (λ es. get (from_sorted {R = nat_cmp} (rows_of es)) inode) is
    ∙ ap (λ (rules : Map nat_cmp ℕ). get rules inode) (from_sorted-empty ℕ nat_cmp) ∙ get-empty ℕ nat_cmp inode

pub length-rules_of : (table : BTreeMap ℕ Access) → IsTable table
    → length (entries (rules_of table)) ≡ length table.entries
length-rules_of table sorted =
    ap length (entries-from_sorted nat_cmp (rows_of table.entries) sorted)
    ∙ length-map table.entries (λ (rule : ℕ × Access). (rule.0, rule.1.0))

module _ (old new : BTreeMap ℕ Access) (inode : ℕ) (rights : Access)
    (inserted : new.entries ≡ insert_entry nat_cmp old.entries inode rights) (sorted : IsTable old) where
  -- to insert in the table is to insert in the map
  pub rules_of-insert : rules_of new ≡ insert (rules_of old) inode rights.0
  rules_of-insert =
      ap from_sorted (ap rows_of inserted ∙ rows-insert old.entries inode rights)
      ∙ sym (insert-from_sorted nat_cmp_total (rows_of old.entries) inode rights.0 sorted)

  pub none_above-insert : (highest : ℕ) → HasNoneAbove highest old → HasNoneAbove (max highest inode) new
  none_above-insert highest none other above =
      let apart : other ≢ inode = omega arith in
      ap (λ rules. get rules other) rules_of-insert
      ∙ get-insert_other nat_cmp_total nat_cmp-IsAntisymmetric (rules_of old) inode rights.0 other apart
      ∙ none other (omega arith)

  pub IsTable-insert : IsTable new
  IsTable-insert =
      ap (λ rows. is_sorted nat_cmp rows) (ap rows_of inserted ∙ rows-insert old.entries inode rights)
      ∙ put_sorted nat_cmp_total inode rights.0 (rows_of old.entries) sorted
