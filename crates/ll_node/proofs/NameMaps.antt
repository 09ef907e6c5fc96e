-- The map of the names in a directory, state by state: what it answers, and how it changes with the entries.
use Rattle.std.specs.Prelude.{◌≡◌, ◌≢◌, ℕ, true, false, cond, T, ◌&&◌, ◌==◌, List, [], ◌∷◌, length, map, filter, Some}
use Rattle.std.specs.Prelude.{None, refl}
use Rattle.std.specs.Ordering.{nat_cmp, is_eq, is_lt, eq_by_cmp, ordering_then}
use Rattle.std.specs.Cmp.{nat_cmp_total, tied_itself}
use Rattle.std.specs.Cmp.Lexicographic.{slice_cmp, nat_list_cmp_total}
use Rattle.std.specs.FinMap.Entries.{find, is_sorted, below_all}
use Rattle.std.proofs.Common.{sym, subst, ap, ◌∙◌}
use Rattle.std.proofs.lemmas.Bool.{eqb-true, eq-eqb}
use Rattle.std.proofs.lemmas.List.{length-map}
use Rattle.ll_rights.specs.MapCodes.{same_list_map}
use Rattle.ll_rights.specs.Map.{empty, get, insert, remove, entries, len, from_sorted}
use Rattle.ll_rights.proofs.Maps.{equal_at, get-empty, get-insert, get-remove, get-from_sorted, entries-from_sorted}
use Rattle.ll_rights.proofs.Maps.{same_map}
use Rattle.ll_node.specs.Slot.{NameMap}
use Rattle.ll_node.proofs.NameTable.{names_exact}
use Rattle.ll_seq.specs.declared.dentries.Dentry.{Dentry}
use Rattle.ll_seq.specs.State.{Name, State, dentry, dentry_cmp, child, names_in}
use Rattle.ll_seq.proofs.DentryOrder.{dentry_total, dentry_exact}
use Rattle.ll_seq.proofs.DentryRows.{both, is_less}
use Rattle.ll_seq.proofs.OrderedTables.{remove-insert_other}
use Rattle.ll_node.specs.Accounts.{map_of, names_map}

-- maps of names that answer alike are one
pub same_names : (m n : NameMap) → ((name : Name) → get m name ≡ get n name) → m ≡ n
same_names m n same = same_list_map m n (same_map nat_list_cmp_total names_exact m n same)

-- ---- the rows of a directory

abbrev rows_in : ℕ → List (Dentry × ℕ) → List (Name × ℕ)
rows_in d es = map (λ (e : Dentry × ℕ). (e.0.name, e.1)) (filter (λ (e : Dentry × ℕ). e.0.directory == d) es)

get-map_of : (es : List (Name × ℕ)) (name : Name) → get (map_of es) name ≡ find (slice_cmp nat_cmp) name es
get-map_of [] name = get-empty ℕ (slice_cmp nat_cmp) name
get-map_of (e ∷ es) name =
    get-insert nat_list_cmp_total names_exact (map_of es) e.0 e.1 name
    ∙ ap (λ o. cond (eq_by_cmp (slice_cmp nat_cmp) name e.0) (Some e.1) o) (get-map_of es name)

-- names in one directory compare as their bytes do
same_place : (d i : ℕ) (name other : Name) → i ≡ d
    → dentry_cmp (dentry d name) (dentry i other) ≡ slice_cmp nat_cmp name other
same_place d i name other same =
    ap (λ j. ordering_then (nat_cmp d j) (slice_cmp nat_cmp name other)) same
    ∙ ap (λ o. ordering_then o (slice_cmp nat_cmp name other)) (tied_itself nat_cmp_total d)

other_place : (d : ℕ) (name : Name) (at : Dentry) → d ≢ at.directory → eq_by_cmp dentry_cmp (dentry d name) at ≡ false
other_place d name at other =
    elim (eq_by_cmp dentry_cmp (dentry d name) at) as (λ b. eq_by_cmp dentry_cmp (dentry d name) at ≡ b → b ≡ false) [
      | true ↦ λ k. absurd (other (ap (λ (q : Dentry). q.directory) (dentry_exact (dentry d name) at (equal_at _ k))))
      | false ↦ λ k. refl
    ] refl

not_same : (i d : ℕ) → (i == d) ≡ false → d ≢ i
not_same i d e same = cc (sym e ∙ eq-eqb i d (sym same))

find-rows_in : (d : ℕ) (name : Name) (es : List (Dentry × ℕ))
    → find (slice_cmp nat_cmp) name (rows_in d es) ≡ find dentry_cmp (dentry d name) es
find-rows_in d name [] = refl
find-rows_in d name (e ∷ es) =
    elim (e.0.directory == d) as (λ b. (e.0.directory == d) ≡ b
    → find (slice_cmp nat_cmp) name
    (map (λ (f : Dentry × ℕ). (f.0.name, f.1))
    (cond b (e ∷ filter (λ (f : Dentry × ℕ). f.0.directory == d) es)
    (filter (λ (f : Dentry × ℕ). f.0.directory == d) es))) ≡ find dentry_cmp (dentry d name) (e ∷ es)) [
      | true ↦ λ h.
          let here = same_place d e.0.directory name e.0.name (eqb-true e.0.directory d h) in
          let rest = find-rows_in d name es in
          λ i. cond (is_eq (sym here i)) (Some e.1) (rest i)
      | false ↦ λ h.
          find-rows_in d name es
          ∙ sym (ap (λ b. cond b (Some e.1) (find dentry_cmp (dentry d name) es))
          (other_place d name e.0 (not_same e.0.directory d h)))
    ] refl

-- a look-up in the map is the tree's
pub get-names_map : (s : State) (d : ℕ) (name : Name) → get (names_map s d) name ≡ child s d name
unfolding get entries
get-names_map s d name = get-map_of (rows_in d s.entries.list) name ∙ find-rows_in d name s.entries.list

-- ---- its entries

below-rows_in : (d : ℕ) (name : Name) (es : List (Dentry × ℕ)) → T (below_all dentry_cmp (dentry d name) es)
    → below_all (slice_cmp nat_cmp) name (rows_in d es) ≡ true
below-rows_in d name [] h = refl
below-rows_in d name (e ∷ es) h =
    let parts = both (is_lt (dentry_cmp (dentry d name) e.0)) (below_all dentry_cmp (dentry d name) es) h in
    let rest = below-rows_in d name es parts.1 in
    elim (e.0.directory == d) as (λ b. (e.0.directory == d) ≡ b
    → below_all (slice_cmp nat_cmp) name
    (map (λ (f : Dentry × ℕ). (f.0.name, f.1))
    (cond b (e ∷ filter (λ (f : Dentry × ℕ). f.0.directory == d) es)
    (filter (λ (f : Dentry × ℕ). f.0.directory == d) es))) ≡ true) [
      | true ↦ λ g.
          let first = ap is_lt (sym (same_place d e.0.directory name e.0.name (eqb-true e.0.directory d g))
          ∙ is_less (dentry_cmp (dentry d name) e.0) parts.0) in
          λ i. first i && rest i
      | false ↦ λ g. rest
    ] refl

is_sorted-rows_in : (d : ℕ) (es : List (Dentry × ℕ)) → T (is_sorted dentry_cmp es)
    → is_sorted (slice_cmp nat_cmp) (rows_in d es) ≡ true
is_sorted-rows_in d [] h = refl
is_sorted-rows_in d (e ∷ es) h =
    let parts = both (below_all dentry_cmp e.0 es) (is_sorted dentry_cmp es) h in
    let rest = is_sorted-rows_in d es parts.1 in
    elim (e.0.directory == d) as (λ b. (e.0.directory == d) ≡ b
    → is_sorted (slice_cmp nat_cmp)
    (map (λ (f : Dentry × ℕ). (f.0.name, f.1))
    (cond b (e ∷ filter (λ (f : Dentry × ℕ). f.0.directory == d) es)
    (filter (λ (f : Dentry × ℕ). f.0.directory == d) es))) ≡ true) [
      | true ↦ λ g.
          let first = below-rows_in d e.0.name es
          (subst (λ i. T (below_all dentry_cmp (dentry i e.0.name) es)) (eqb-true e.0.directory d g) parts.0) in
          λ i. first i && rest i
      | false ↦ λ g. rest
    ] refl

entries-map_of : (es : List (Name × ℕ)) → is_sorted (slice_cmp nat_cmp) es ≡ true → entries (map_of es) ≡ es
entries-map_of es sorted =
    ap entries (same_names (map_of es) (from_sorted es) (λ name. get-map_of es name
    ∙ sym (get-from_sorted (slice_cmp nat_cmp) es name sorted)))
    ∙ entries-from_sorted (slice_cmp nat_cmp) es sorted

-- those of the directory in the order of the names' bytes
pub entries-names_map : (s : State) (d : ℕ)
    → entries (names_map s d) ≡ map (λ (e : Dentry × ℕ). (e.0.name, e.1))
    (filter (λ (e : Dentry × ℕ). e.0.directory == d) (entries s.entries))
unfolding entries
entries-names_map s d = entries-map_of (rows_in d s.entries.list) (is_sorted-rows_in d s.entries.list s.entries.sorted)

names_of_rows : (es : List (Dentry × ℕ))
    → map (λ (e : Name × ℕ). e.0) (map (λ (e : Dentry × ℕ). (e.0.name, e.1)) es) ≡ map (λ (e : Dentry × ℕ). e.0.name) es
names_of_rows [] = refl
names_of_rows (e ∷ es) = ap (λ names. e.0.name ∷ names) (names_of_rows es)

-- its names are those that a directory is told to have
pub names-names_map : (s : State) (d : ℕ) → map (λ (e : Name × ℕ). e.0) (entries (names_map s d)) ≡ names_in s d
names-names_map s d =
    ap (map (λ (e : Name × ℕ). e.0)) (entries-names_map s d)
    ∙ names_of_rows (filter (λ (e : Dentry × ℕ). e.0.directory == d) (entries s.entries))

-- and as many
pub len-names_map : (s : State) (d : ℕ) → len (names_map s d) ≡ length (names_in s d)
len-names_map s d = sym (length-map (entries (names_map s d)) (λ (e : Name × ℕ). e.0)) ∙ ap length (names-names_map s d)

-- where nothing has a name in it, it is empty
pub names_map-empty : (s : State) (d : ℕ) → ((name : Name) → child s d name ≡ None) → names_map s d ≡ empty
names_map-empty s d none = same_names (names_map s d) empty (λ name. get-names_map s d name ∙ none name
    ∙ sym (get-empty ℕ (slice_cmp nat_cmp) name))

-- it is a function of the directory's entries
pub names_map-same : (s t : State) (d : ℕ) → ((name : Name) → child t d name ≡ child s d name)
    → names_map t d ≡ names_map s d
names_map-same s t d same = same_names (names_map t d) (names_map s d) (λ name. get-names_map t d name ∙ same name
    ∙ sym (get-names_map s d name))

-- ---- an entry that comes, stands for another inode, or goes

pub child-put : (s t : State) (at : Dentry) (inode : ℕ) → t.entries ≡ insert s.entries at inode → (d : ℕ) (name : Name)
    → child t d name ≡ cond (eq_by_cmp dentry_cmp (dentry d name) at) (Some inode) (child s d name)
child-put s t at inode is d name =
    ap (λ es. get es (dentry d name)) is ∙ get-insert dentry_total dentry_exact s.entries at inode (dentry d name)

pub child-taken : (s t : State) (at : Dentry) → t.entries ≡ remove s.entries at → (d : ℕ) (name : Name)
    → child t d name ≡ cond (eq_by_cmp dentry_cmp (dentry d name) at) None (child s d name)
child-taken s t at is d name =
    ap (λ es. get es (dentry d name)) is ∙ get-remove dentry_total dentry_exact s.entries at (dentry d name)

eq_in : (d : ℕ) (name other : Name)
    → eq_by_cmp dentry_cmp (dentry d other) (dentry d name) ≡ eq_by_cmp (slice_cmp nat_cmp) other name
eq_in d name other = ap is_eq (same_place d d other name refl)

module _ (s t : State) (at : Dentry) where
  -- in its directory
  pub names_put : (inode : ℕ) → t.entries ≡ insert s.entries at inode
      → names_map t at.directory ≡ insert (names_map s at.directory) at.name inode
  names_put inode is =
      same_names _ _ (λ name.
      get-names_map t at.directory name ∙ child-put s t at inode is at.directory name
      ∙ (λ i. cond (eq_in at.directory at.name name i) (Some inode) (sym (get-names_map s at.directory name) i))
      ∙ sym (get-insert nat_list_cmp_total names_exact (names_map s at.directory) at.name inode name))

  -- in any other
  pub names_put_other : (inode : ℕ) → t.entries ≡ insert s.entries at inode → (d : ℕ) → d ≢ at.directory
      → names_map t d ≡ names_map s d
  names_put_other inode is d other =
      names_map-same s t d (λ name. child-put s t at inode is d name
      ∙ ap (λ b. cond b (Some inode) (child s d name)) (other_place d name at other))

  pub names_taken : t.entries ≡ remove s.entries at
      → names_map t at.directory ≡ remove (names_map s at.directory) at.name
  names_taken is =
      same_names _ _ (λ name.
      get-names_map t at.directory name ∙ child-taken s t at is at.directory name
      ∙ (λ i. cond (eq_in at.directory at.name name i) None (sym (get-names_map s at.directory name) i))
      ∙ sym (get-remove nat_list_cmp_total names_exact (names_map s at.directory) at.name name))

  pub names_taken_other : t.entries ≡ remove s.entries at → (d : ℕ) → d ≢ at.directory → names_map t d ≡ names_map s d
  names_taken_other is d other =
      names_map-same s t d (λ name. child-taken s t at is d name
      ∙ ap (λ b. cond b None (child s d name)) (other_place d name at other))

-- ---- an entry that moves. The state between has the old name's entry taken out

abbrev left : State → Dentry → State
left s old = record s { entries = remove s.entries old }

module _ (s t : State) (old new : Dentry) (inode : ℕ) (is : t.entries ≡ insert (remove s.entries old) new inode) where
  -- within a directory
  pub names_moved_within : old.directory ≡ new.directory
      → names_map t new.directory ≡ insert (remove (names_map s new.directory) old.name) new.name inode
  names_moved_within same =
      names_put (left s old) t new inode is
      ∙ ap (λ m. insert m new.name inode)
      (subst (λ d. names_map (left s old) d ≡ remove (names_map s d) old.name) same
      (names_taken s (left s old) old refl))

  -- as two names that are two are put in and taken out in any order
  pub names_moved_after : old.directory ≡ new.directory → new.name ≢ old.name
      → names_map t new.directory ≡ remove (insert (names_map s new.directory) new.name inode) old.name
  names_moved_after same two =
      names_moved_within same ∙ sym
      (remove-insert_other nat_list_cmp_total names_exact (names_map s new.directory) new.name old.name inode two)

  -- out of a directory into another one
  pub names_moved_from : old.directory ≢ new.directory
      → names_map t old.directory ≡ remove (names_map s old.directory) old.name
  names_moved_from two = names_put_other (left s old) t new inode is old.directory two
      ∙ names_taken s (left s old) old refl

  pub names_moved_into : new.directory ≢ old.directory
      → names_map t new.directory ≡ insert (names_map s new.directory) new.name inode
  names_moved_into two = names_put (left s old) t new inode is
      ∙ ap (λ m. insert m new.name inode) (names_taken_other s (left s old) old refl new.directory two)

  pub names_moved_other : (d : ℕ) → d ≢ old.directory → d ≢ new.directory → names_map t d ≡ names_map s d
  names_moved_other d from into =
      names_put_other (left s old) t new inode is d into ∙ names_taken_other s (left s old) old refl d from

-- ---- two entries that change places. The state between has the first of them put in

abbrev half : State → Dentry → ℕ → State
half s new moved = record s { entries = insert s.entries new moved }

module _ (s t : State) (old new : Dentry) (moved other : ℕ)
    (is : t.entries ≡ insert (insert s.entries new moved) old other) where
  pub names_exchanged_other : (d : ℕ) → d ≢ old.directory → d ≢ new.directory → names_map t d ≡ names_map s d
  names_exchanged_other d a b =
      names_put_other (half s new moved) t old other is d a ∙ names_put_other s (half s new moved) new moved refl d b
