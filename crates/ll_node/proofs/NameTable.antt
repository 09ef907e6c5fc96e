-- What std's table of names says of the map that it means.
use Rattle.std.specs.Prelude.{◌≡◌, ℕ, Bool, true, cond, ◌&&◌, List, [], ◌∷◌, length, map, Option, Some, None, All}
use Rattle.std.specs.Prelude.{String, string_bytes, string_cmp, refl}
use Rattle.std.specs.declared.cmp.Ordering.TheVariants.{Less}
use Rattle.std.specs.Ordering.{nat_cmp, is_eq, is_lt, eq_by_cmp}
use Rattle.std.specs.Cmp.{eq_by_cmp_equiv}
use Rattle.std.specs.Cmp.Lexicographic.{slice_cmp, nat_list_cmp_total}
use Rattle.std.specs.List.{AllByRecursion}
use Rattle.std.specs.List.Sorted.{IsStrictlySortedBy}
use Rattle.std.specs.Str.{bytes_eq}
use Rattle.std.specs.Map.{lookup, remove_entry, keys_of}
use Rattle.std.specs.BTreeMap.{BTreeMap, UpdatesBy, IsOrdered, get_by_text, insert_entry, is_at, keys}
use Rattle.std.specs.FinMap.{IsAntisymmetric, nat_cmp-IsAntisymmetric, slice_cmp-IsAntisymmetric}
use Rattle.std.specs.FinMap.Entries.{find, is_sorted, below_all}
use Rattle.std.proofs.Common.{sym, ap, subst, ◌∙◌}
use Rattle.std.proofs.lemmas.List.{length-map}
use Rattle.std.proofs.lemmas.Map.Views.{All-keys-insert_entry, All-map-remove_entry}
use Rattle.std.proofs.lemmas.Map.Text.{btree_map_updates_text, is_eq-slice_cmp}
use Rattle.ll_rights.specs.MapCodes.{same_list_map}
use Rattle.ll_rights.specs.Map.{get, insert, remove, entries}
use Rattle.ll_rights.proofs.Maps.{get-from_sorted, get-insert, get-remove, entries-from_sorted, same_map}
use Rattle.ll_path.specs.Name.{IsName}
use Rattle.ll_node.specs.Rows.{rows_of, names_kept, AreRows}

pub names_exact : IsAntisymmetric (slice_cmp nat_cmp)
names_exact = slice_cmp-IsAntisymmetric nat_cmp-IsAntisymmetric

-- two names are the same bytes, either way round
same-bytes : (name other : List ℕ) → bytes_eq name other ≡ eq_by_cmp (slice_cmp nat_cmp) other name
same-bytes name other = sym (is_eq-slice_cmp name other) ∙ (eq_by_cmp_equiv nat_list_cmp_total).symm name other

module _ {Y : Type 0} where
  find-rows_of : (es : List (String Y × ℕ)) (name : List ℕ)
      → find (slice_cmp nat_cmp) name (rows_of es)
      ≡ lookup (is_at (λ (text : String Y). slice_cmp nat_cmp name (string_bytes text))) es
  find-rows_of [] name = refl
  find-rows_of (e ∷ es) name = ap (λ rest. cond (is_eq (slice_cmp nat_cmp name (string_bytes e.0))) (Some e.1) rest)
      (find-rows_of es name)

  below-rows_of : (text : String Y) (es : List (String Y × ℕ))
      → AllByRecursion (λ other. string_cmp text other ≡ Less) (keys_of es)
      → below_all (slice_cmp nat_cmp) (string_bytes text) (rows_of es) ≡ true
  below-rows_of text [] above = refl
  below-rows_of text (e ∷ es) above =
      let first : is_lt (slice_cmp nat_cmp (string_bytes text) (string_bytes e.0)) ≡ true = ap is_lt above.0 in
      let rest = below-rows_of text es above.1 in
      λ i. first i && rest i

  -- rows are in order where the table's texts are
  pub is_sorted-rows_of : (es : List (String Y × ℕ)) → IsStrictlySortedBy string_cmp (keys_of es)
      → is_sorted (slice_cmp nat_cmp) (rows_of es) ≡ true
  unfolding IsStrictlySortedBy
  is_sorted-rows_of [] ordered = refl
  is_sorted-rows_of (e ∷ es) ordered =
      let first = below-rows_of e.0 es ordered.0 in
      let rest = is_sorted-rows_of es ordered.1 in
      λ i. first i && rest i

  names-rows_of : (es : List (String Y × ℕ))
      → map (λ (e : List ℕ × ℕ). e.0) (rows_of es) ≡ map (λ (text : String Y). string_bytes text) (keys_of es)
  names-rows_of [] = refl
  names-rows_of (e ∷ es) = ap (λ rest. string_bytes e.0 ∷ rest) (names-rows_of es)

  -- the table's texts are the map's names
  pub names-names_kept : (table : BTreeMap (String Y) ℕ) → AreRows table
      → map (λ (e : List ℕ × ℕ). e.0) (entries (names_kept table))
      ≡ map (λ (text : String Y). string_bytes text) (keys table)
  names-names_kept table rows =
      ap (map (λ (e : List ℕ × ℕ). e.0)) (entries-from_sorted (slice_cmp nat_cmp) (rows_of table.entries) rows.0)
      ∙ names-rows_of table.entries

  pub length-names_kept : (table : BTreeMap (String Y) ℕ) → AreRows table
      → length (entries (names_kept table)) ≡ length table.entries
  length-names_kept table rows =
      ap length (entries-from_sorted (slice_cmp nat_cmp) (rows_of table.entries) rows.0)
      ∙ length-map table.entries (λ (e : String Y × ℕ). (string_bytes e.0, e.1))

  -- the map answers what the table finds
  pub get-names_kept : (table : BTreeMap (String Y) ℕ) (name : List ℕ) → AreRows table
      → get (names_kept table) name ≡ get_by_text table name
  get-names_kept table name rows =
      get-from_sorted (slice_cmp nat_cmp) (rows_of table.entries) name rows.0 ∙ find-rows_of table.entries name

  module _ (old new : BTreeMap (String Y) ℕ) (name : List ℕ) (old_rows : AreRows old) (new_rows : AreRows new) where
    answers : (w : Option ℕ) → UpdatesBy string_cmp (λ (text : String Y). slice_cmp nat_cmp name (string_bytes text))
        old new w → (other : List ℕ)
        → get (names_kept new) other ≡ cond (eq_by_cmp (slice_cmp nat_cmp) other name) w (get (names_kept old) other)
    answers w updates other =
        get-names_kept new other new_rows ∙ btree_map_updates_text name old new w updates other
        ∙ (λ i. cond (same-bytes name other i) w (sym (get-names_kept old other old_rows) i))

    -- a name put in the table is put in the map
    pub names_kept-insert : (inode : ℕ)
        → UpdatesBy string_cmp (λ (text : String Y). slice_cmp nat_cmp name (string_bytes text)) old new (Some inode)
        → names_kept new ≡ insert (names_kept old) name inode
    names_kept-insert inode updates =
        same_list_map _ _ (same_map nat_list_cmp_total names_exact (names_kept new) (insert (names_kept old) name inode)
        (λ other. answers (Some inode) updates other
        ∙ sym (get-insert nat_list_cmp_total names_exact (names_kept old) name inode other)))

    -- and one taken out of it is taken out of the map
    pub names_kept-remove : UpdatesBy string_cmp (λ (text : String Y). slice_cmp nat_cmp name (string_bytes text)) old
        new None → names_kept new ≡ remove (names_kept old) name
    names_kept-remove updates =
        same_list_map _ _ (same_map nat_list_cmp_total names_exact (names_kept new) (remove (names_kept old) name)
        (λ other. answers None updates other
        ∙ sym (get-remove nat_list_cmp_total names_exact (names_kept old) name other)))

  -- ---- the rows stay in order, and names

  abbrev IsText : String Y → Type 0
  IsText text = IsName (string_bytes text)

  pub AreRows-insert : (old new : BTreeMap (String Y) ℕ) (text : String Y) (inode : ℕ)
      → new.entries ≡ insert_entry string_cmp old.entries text inode → IsOrdered string_cmp new → AreRows old
      → IsName (string_bytes text) → AreRows new
  AreRows-insert old new text inode is ordered rows name = (
    is_sorted-rows_of new.entries ordered,
    subst (λ (es : List (String Y × ℕ)). All IsText (keys_of es)) (sym is)
        (All-keys-insert_entry string_cmp text inode IsText old.entries rows.1 name),
  )

  pub AreRows-remove : (old new : BTreeMap (String Y) ℕ) (test : String Y → Bool)
      → new.entries ≡ remove_entry test old.entries → IsOrdered string_cmp new → AreRows old → AreRows new
  AreRows-remove old new test is ordered rows = (
    is_sorted-rows_of new.entries ordered,
    subst (λ (es : List (String Y × ℕ)). All IsText (keys_of es)) (sym is)
        (All-map-remove_entry test (λ (e : String Y × ℕ). e.0) IsText old.entries rows.1),
  )

  pub AreRows-same_keys : (old new : BTreeMap (String Y) ℕ) → keys new ≡ keys old → IsOrdered string_cmp new
      → AreRows old → AreRows new
  AreRows-same_keys old new same ordered rows =
      (is_sorted-rows_of new.entries ordered, subst (All IsText) (sym same) rows.1)
