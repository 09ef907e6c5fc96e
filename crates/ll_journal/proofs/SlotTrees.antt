-- The state that is read off the slots' accounts is the shown one.
use Rattle.std.specs.Prelude.{◌≡◌, ◌≢◌, ℕ, zero, suc, ◌+◌, ◌<◌, Bool, true, false, cond, not, ◌||◌, ◌&&◌, ◌==◌, List}
use Rattle.std.specs.Prelude.{[]}
use Rattle.std.specs.Prelude.{◌∷◌, ◌++◌, map, filter, length, Option, Some, None, is_some, unwrap_or, option_map, refl}
use Rattle.std.specs.Prelude.{slice_get, slice_index_or, if◌then◌else◌}
use Rattle.std.specs.declared.cmp.Ordering.{Ordering}
use Rattle.std.specs.List.{flat_map, list_any, range_with_len}
use Rattle.std.specs.Option.{option_map_or}
use Rattle.std.specs.Ordering.{nat_cmp, is_eq, eq_by_cmp, ordering_then}
use Rattle.std.specs.Cmp.{IsTotalOrder, nat_cmp_total, tied_itself, unsigned_tied}
use Rattle.std.specs.Cmp.Lexicographic.{slice_cmp}
use Rattle.std.specs.FinMap.{IsAntisymmetric, nat_cmp-IsAntisymmetric}
use Rattle.std.specs.FinMap.Entries.{find}
use Rattle.std.proofs.Common.{sym, ap, ◌∙◌, arith}
use Rattle.std.proofs.lemmas.Bool.{eqb-true, eq-eqb, ne_eqb}
use Rattle.std.proofs.lemmas.List.{length-map}
use Rattle.std.proofs.lemmas.List.FromFn.{length-map-range_with_len, fill_by_all}
use Rattle.ll_rights.specs.declared.kind.Kind.{Kind}
use Rattle.ll_rights.specs.declared.kind.Kind.TheVariants.{Reg}
use Rattle.ll_rights.specs.declared.limits.TheConstants.{TREE_CLIENTS}
use Rattle.ll_rights.specs.MapCodes.{same_list_map}
use Rattle.ll_rights.specs.Map.{Map, get, has, entries}
use Rattle.ll_rights.proofs.Maps.{equal_at, get-empty, get-insert, same_map}
use Rattle.ll_node.specs.Slot.{NameMap}
use Rattle.ll_seq.specs.declared.dentries.Dentry.{Dentry}
use Rattle.ll_seq.specs.declared.node.Node.{Node}
use Rattle.ll_seq.specs.State.{Name, State, dentry, dentry_cmp, child, bytes_of, start}
use Rattle.ll_seq.specs.Tree.{kind_or_file}
use Rattle.ll_seq.proofs.DentryOrder.{dentry_total, dentry_exact}
use Rattle.ll_node.specs.declared.held.Held.{Held}
use Rattle.ll_node.specs.Lent.{vacant}
use Rattle.ll_node.specs.InodeTable.{ArePlaced, AreDistinct, NotIn}
use Rattle.ll_node.specs.Accounts.{names_map}
use Rattle.ll_node.proofs.Accounted.{lent_apart}
use Rattle.ll_node.proofs.NameMaps.{get-names_map}
use Rattle.ll_laws.specs.World.{World, shown}
use Rattle.ll_journal.specs.declared.journal.Journal.TheInside.{Inside}
use Rattle.ll_journal.specs.Book.{Book, held_of, mark_of, slot_of}
use Rattle.ll_journal.specs.Kept.{IsKept, book_of, world_of}
use Rattle.ll_journal.specs.SlotTree.{HoldTree, accounts_of, entries_in, map_of, node_in, taken}
use Rattle.ll_journal.proofs.EntryDirs.{all_in}
use Rattle.ll_journal.proofs.Ruled.{room_stays, rules_stay}

-- ---- maps of rows

module _ {K X : Type 0} {R : K → K → Ordering} (o : IsTotalOrder R) (exact : IsAntisymmetric R) where
  get-map_of : (es : List (K × X)) (k : K) → get (map_of {R = R} es) k ≡ find R k es
  get-map_of [] k = get-empty X R k
  get-map_of (e ∷ es) k = get-insert o exact (map_of es) e.0 e.1 k
      ∙ ap (λ (x : Option X). cond (eq_by_cmp R k e.0) (Some e.1) x) (get-map_of es k)

  map_is : (es : List (K × X)) (m : Map R X) → ((k : K) → find R k es ≡ get m k) → map_of {R = R} es ≡ m
  map_is es m same =
      same_list_map (map_of es) m (same_map o exact (map_of es) m (λ k. get-map_of es k ∙ same k))

abbrev or_else : {X : Type 0} → Option X → Option X → Option X
or_else None y = y
or_else (Some x) y = Some x

find_either : {K X : Type 0} (R : K → K → Ordering) (q : K) (xs ys : List (K × X))
    → find R q (xs ++ ys) ≡ or_else (find R q xs) (find R q ys)
find_either R q [] ys = refl
find_either R q (e ∷ xs) ys = elim (eq_by_cmp R q e.0) as
    (λ b. cond b (Some e.1) (find R q (xs ++ ys)) ≡ or_else (cond b (Some e.1) (find R q xs)) (find R q ys))
    [ true ↦ refl | false ↦ find_either R q xs ys ]

-- what is found again is the same
again : {X : Type 0} (b : Bool) (x : Option X) → or_else x (cond b x None) ≡ x
again true None = refl
again false None = refl
again b (Some x) = refl

either : {X : Type 0} (b : Bool) (x : X) → cond b x x ≡ x
either true x = refl
either false x = refl

-- ---- which inodes lie in slots

abbrev lies : List ℕ → ℕ → Bool
lies inodes q = list_any (λ i. not (i == 0) && (i == q)) inodes

lies_at : (inodes : List ℕ) (q : ℕ) → lies inodes q ≡ true → (slot : ℕ) × (slice_get inodes slot ≡ Some q) × (q ≢ 0)
lies_at [] q e = absurd (cc e)
lies_at (i ∷ is) q e =
    elim (i == 0) as (λ b. (i == 0) ≡ b → ((not b && (i == q)) || lies is q) ≡ true → (slot : ℕ)
    × (slice_get (i ∷ is) slot ≡ Some q) × (q ≢ 0)) [
      | true ↦ λ z f. later (lies_at is q f)
      | false ↦ λ z. elim (i == q) as (λ b. (i == q) ≡ b → (b || lies is q) ≡ true → (slot : ℕ)
          × (slice_get (i ∷ is) slot ≡ Some q) × (q ≢ 0)) [
            | true ↦ λ same f. let is : i ≡ q = eqb-true i q same in
                (0, ap Some is, λ none. cc (sym z ∙ eq-eqb i 0 (is ∙ none)))
            | false ↦ λ other f. later (lies_at is q f)
          ] refl
    ] refl e
  where
    later : (slot : ℕ) × (slice_get is slot ≡ Some q) × (q ≢ 0) → (slot : ℕ) × (slice_get (i ∷ is) slot ≡ Some q)
        × (q ≢ 0)
    later w = (suc w.0, w.1, w.2)

here_or_later : (a b : Bool) → b ≡ true → (a || b) ≡ true
here_or_later true b e = refl
here_or_later false b e = e

at_lies : (inodes : List ℕ) (slot q : ℕ) → slice_get inodes slot ≡ Some q → q ≢ 0 → lies inodes q ≡ true
at_lies [] slot q e some = absurd (cc e)
at_lies (i ∷ is) zero q e some =
    let same : i ≡ q = cc in
    λ k. (not (ne_eqb i 0 (λ none. some (sym same ∙ none)) k) && eq-eqb i q same k) || lies is q
at_lies (i ∷ is) (suc slot) q e some = here_or_later (not (i == 0) && (i == q)) (lies is q) (at_lies is slot q e some)

module _ (inodes : List ℕ) (places : Map nat_cmp ℕ) (placed : ArePlaced inodes places) where
  lies_placed : (q : ℕ) → lies inodes q ≡ has places q
  lies_placed q = elim (lies inodes q) as (λ b. lies inodes q ≡ b → b ≡ has places q) [
    | true ↦ λ e. let w = lies_at inodes q e in sym (ap is_some (placed.lies w.0 q w.1 w.2))
    | false ↦ λ e. elim (get places q) as (λ o. get places q ≡ o → false ≡ is_some o) [
      | None ↦ λ f. refl
      | Some slot ↦ λ f. let w = placed.there q slot f in sym e ∙ at_lies inodes slot q w.0 w.1
    ] refl
  ] refl

-- ---- what is found in the slots of a world's inodes

abbrev node_at : State → ℕ → Node
node_at s inode = record { kind = kind_or_file s inode; bytes = bytes_of s inode }

abbrev held_in : World → ℕ → Held
held_in w inode = if inode == 0 then vacant else held_of w inode

abbrev slots_of : World → List ℕ → List Held
slots_of w inodes = taken (map (held_in w) inodes)

module _ (w : World) where
  -- the slot of the first of the inodes
  one_more : (i : ℕ) (is : List ℕ) → (i == 0) ≡ false → slots_of w (i ∷ is) ≡ held_of w i ∷ slots_of w is
  one_more i is z =
      ap (λ b. filter (λ (held : Held). not (held.inode == 0)) (cond b vacant (held_of w i) ∷ map (held_in w) is)) z
      ∙ ap (λ b. cond (not b) (held_of w i ∷ slots_of w is) (slots_of w is)) z

  none_more : (i : ℕ) (is : List ℕ) → (i == 0) ≡ true → slots_of w (i ∷ is) ≡ slots_of w is
  none_more i is z =
      ap (λ b. filter (λ (held : Held). not (held.inode == 0)) (cond b vacant (held_of w i) ∷ map (held_in w) is)) z

  abbrev Found : List ℕ → ℕ → Type 0
  Found is q = find nat_cmp q (map node_in (slots_of w is)) ≡ cond (lies is q) (Some (node_at (shown w) q)) None

  find_node : (is : List ℕ) (q : ℕ) → Found is q
  find_node [] q = refl
  find_node (i ∷ is) q = elim (i == 0) as (λ b. (i == 0) ≡ b
      → find nat_cmp q (map node_in (slots_of w (i ∷ is)))
      ≡ cond ((not b && (i == q)) || lies is q) (Some (node_at (shown w) q)) None) [
        | true ↦ λ z. ap (λ slots. find nat_cmp q (map node_in slots)) (none_more i is z) ∙ find_node is q
        | false ↦ λ z. ap (λ slots. find nat_cmp q (map node_in slots)) (one_more i is z)
            ∙ by (i == q) refl (find_node is q)
      ] refl
    where
      by : (b : Bool) → (i == q) ≡ b → Found is q
          → cond (eq_by_cmp nat_cmp q i) (Some (node_at (shown w) i)) (find nat_cmp q (map node_in (slots_of w is)))
          ≡ cond (b || lies is q) (Some (node_at (shown w) q)) None
      by true e rest =
          let same : i ≡ q = eqb-true i q e in
          let tied : eq_by_cmp nat_cmp q i ≡ true = unsigned_tied q i ∙ eq-eqb q i (sym same) in
          ap (λ b. cond b (Some (node_at (shown w) i)) (find nat_cmp q (map node_in (slots_of w is)))) tied
          ∙ ap (λ j. Some (node_at (shown w) j)) same
      by false e rest =
          let tied : eq_by_cmp nat_cmp q i ≡ false =
          unsigned_tied q i ∙ ne_eqb q i (λ same. cc (sym e ∙ eq-eqb i q (sym same))) in
          ap (λ b. cond b (Some (node_at (shown w) i)) (find nat_cmp q (map node_in (slots_of w is)))) tied
          ∙ rest

-- ---- the names in one slot

rows_same : (d : ℕ) (name : Name) (es : List (Name × ℕ))
    → find dentry_cmp (dentry d name) (map (λ (e : Name × ℕ). (dentry d e.0, e.1)) es)
    ≡ find (slice_cmp nat_cmp) name es
rows_same d name [] = refl
rows_same d name (e ∷ es) =
    let here : eq_by_cmp dentry_cmp (dentry d name) (dentry d e.0) ≡ eq_by_cmp (slice_cmp nat_cmp) name e.0 =
    ap (λ o. is_eq (ordering_then o (slice_cmp nat_cmp name e.0))) (tied_itself nat_cmp_total d) in
    let rest = rows_same d name es in
    λ i. cond (here i) (Some e.1) (rest i)

rows_other : (d i : ℕ) (name : Name) → d ≢ i → (es : List (Name × ℕ))
    → find dentry_cmp (dentry d name) (map (λ (e : Name × ℕ). (dentry i e.0, e.1)) es) ≡ None
rows_other d i name other [] = refl
rows_other d i name other (e ∷ es) =
    elim (eq_by_cmp dentry_cmp (dentry d name) (dentry i e.0)) as
    (λ b. eq_by_cmp dentry_cmp (dentry d name) (dentry i e.0) ≡ b
    → cond b (Some e.1) (find dentry_cmp (dentry d name) (map (λ (e : Name × ℕ). (dentry i e.0, e.1)) es)) ≡ None) [
      | true ↦ λ k. absurd (other (ap (λ (q : Dentry). q.directory)
          (dentry_exact (dentry d name) (dentry i e.0) (equal_at _ k))))
      | false ↦ λ k. rows_other d i name other es
    ] refl

find_name : (m : NameMap) (name : Name) → find (slice_cmp nat_cmp) name (entries m) ≡ get m name
unfolding get entries
find_name m name = refl

module _ (w : World) where
  names_here : (d : ℕ) (name : Name)
      → find dentry_cmp (dentry d name) (entries_in (held_of w d)) ≡ child (shown w) d name
  names_here d name = rows_same d name (entries (names_map (shown w) d)) ∙ find_name (names_map (shown w) d) name
      ∙ get-names_map (shown w) d name

  find_entry : (is : List ℕ) (d : ℕ) (name : Name)
      → find dentry_cmp (dentry d name) (flat_map entries_in (slots_of w is))
      ≡ cond (lies is d) (child (shown w) d name) None
  find_entry [] d name = refl
  find_entry (i ∷ is) d name = elim (i == 0) as (λ b. (i == 0) ≡ b
      → find dentry_cmp (dentry d name) (flat_map entries_in (slots_of w (i ∷ is)))
      ≡ cond ((not b && (i == d)) || lies is d) (child (shown w) d name) None) [
        | true ↦ λ z. ap (λ slots. find dentry_cmp (dentry d name) (flat_map entries_in slots)) (none_more w i is z)
            ∙ find_entry is d name
        | false ↦ λ z. ap (λ slots. find dentry_cmp (dentry d name) (flat_map entries_in slots)) (one_more w i is z)
            ∙ find_either dentry_cmp (dentry d name) (entries_in (held_of w i)) (flat_map entries_in (slots_of w is))
            ∙ ap (λ o. or_else (find dentry_cmp (dentry d name) (entries_in (held_of w i))) o) (find_entry is d name)
            ∙ by (i == d) refl
      ] refl
    where
      by : (b : Bool) → (i == d) ≡ b
          → or_else (find dentry_cmp (dentry d name) (entries_in (held_of w i)))
          (cond (lies is d) (child (shown w) d name) None) ≡ cond (b || lies is d) (child (shown w) d name) None
      by true e =
          let same : i ≡ d = eqb-true i d e in
          ap (λ j. or_else (find dentry_cmp (dentry d name) (entries_in (held_of w j)))
          (cond (lies is d) (child (shown w) d name) None)) same
          ∙ ap (λ o. or_else o (cond (lies is d) (child (shown w) d name) None)) (names_here d name)
          ∙ again (lies is d) (child (shown w) d name)
      by false e =
          ap (λ o. or_else o (cond (lies is d) (child (shown w) d name) None))
          (rows_other d i name (λ same. cc (sym e ∙ eq-eqb i d (sym same))) (entries (names_map (shown w) i)))

-- ---- all slots of a journal

at_map : (w : World) (inodes : List ℕ) (k : ℕ)
    → slice_index_or (map (held_in w) inodes) k vacant ≡ held_in w (slice_index_or inodes k 0)
at_map w [] k = refl
at_map w (i ∷ is) zero = refl
at_map w (i ∷ is) (suc k) = at_map w is k

accounts_are : (b : Book) → map (held_in b.world) b.inodes ≡ accounts_of b
accounts_are b =
    fill_by_all (slot_of b) (map (held_in b.world) b.inodes) (length b.inodes) vacant
    (length-map b.inodes (held_in b.world)) (λ k lt. at_map b.world b.inodes k)

range_above : (first count k : ℕ) → k < first → NotIn k (range_with_len first count)
range_above first zero k lt = tt
range_above first (suc count) k lt = (λ e. absurd (omega arith), range_above (first + 1) count k (omega arith))

range_distinct : (first count : ℕ) → AreDistinct (range_with_len first count)
range_distinct first zero = tt
range_distinct first (suc count) = (range_above (first + 1) count first (omega arith), range_distinct (first + 1) count)

module _ (j : Inside) (h : IsKept j) where
  abbrev w : World
  w = world_of j

  abbrev s : State
  s = shown w

  lies_living : (q : ℕ) → lies j.table.inodes q ≡ has s.nodes q
  lies_living q = lies_placed j.table.inodes j.table.places h.table.placed q ∙ h.table.living q

  nodes_are : map_of {R = nat_cmp} (map node_in (taken (accounts_of (book_of j)))) ≡ s.nodes
  nodes_are = map_is nat_cmp_total nat_cmp-IsAntisymmetric (map node_in (taken (accounts_of (book_of j)))) s.nodes (λ q.
      ap (λ slots. find nat_cmp q (map node_in (taken slots))) (sym (accounts_are (book_of j)))
      ∙ find_node w j.table.inodes q
      ∙ ap (λ b. cond b (Some (node_at s q)) None) (lies_living q)
      ∙ there (get s.nodes q))
    where
      there : (o : Option Node)
          → cond (is_some o) (Some (record {
            kind = unwrap_or (option_map (λ (n : Node). n.kind) o) Reg;
            bytes = option_map_or (λ (n : Node). n.bytes) o [];
          })) None ≡ o
      there None = refl
      there (Some n) = refl

  entries_are : map_of {R = dentry_cmp} (flat_map entries_in (taken (accounts_of (book_of j)))) ≡ s.entries
  entries_are = map_is dentry_total dentry_exact (flat_map entries_in (taken (accounts_of (book_of j)))) s.entries (λ q.
      ap (λ slots. find dentry_cmp q (flat_map entries_in (taken slots))) (sym (accounts_are (book_of j)))
      ∙ find_entry w j.table.inodes q.directory q.name
      ∙ ap (λ b. cond b (child s q.directory q.name) None) (lies_living q.directory)
      ∙ there q.directory q.name (child s q.directory q.name) refl)
    where
      there : (d : ℕ) (name : Name) (o : Option ℕ) → child s d name ≡ o → cond (has s.nodes d) o None ≡ o
      there d name None e = either (has s.nodes d) None
      there d name (Some x) e = let node = all_in w d name x e in
          ap (λ b. cond b (Some x) None) (lives (get s.nodes d) node.0 node.1)
        where
          lives : (o : Option Node) (k : Kind) → option_map (λ (n : Node). n.kind) o ≡ Some k → is_some o ≡ true
          lives None k f = absurd (cc f)
          lives (Some n) k f = refl

  pub hold_tree : HoldTree (accounts_of (book_of j)) w
  hold_tree = record {
    size = length-map-range_with_len (slot_of (book_of j)) 0 (length j.table.inodes) ∙ h.table.slots
        ∙ ap (λ n. n + TREE_CLIENTS) (room_stays (start w.rules w.room) w.history);
    apart = lent_apart j.table.inodes j.table.places h.table.placed s (mark_of w)
        (range_with_len 0 (length j.table.inodes)) (range_distinct 0 (length j.table.inodes));
    state = λ i. record {
      entries = entries_are i;
      nodes = nodes_are i;
      next = s.next;
      room = sym (room_stays (start w.rules w.room) w.history) i;
      rules = sym (rules_stay (start w.rules w.room) w.history) i;
      clients = s.clients;
    };
  }
