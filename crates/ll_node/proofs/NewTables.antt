-- The table of a tree of the root alone.
use Rattle.std.specs.Prelude.{◌≡◌, ◌≢◌, ◌⊎◌, ℕ, zero, suc, ◌+◌, ◌-◌, ◌<◌, ◌≤◌, List, [], ◌∷◌, ◌++◌, length, replicate}
use Rattle.std.specs.Prelude.{Some, None, slice_get, refl, is_some}
use Rattle.std.specs.List.{AllByRecursion, range_with_len}
use Rattle.std.specs.Ordering.{nat_cmp}
use Rattle.std.specs.Cmp.{nat_cmp_total}
use Rattle.std.specs.FinMap.{nat_cmp-IsAntisymmetric}
use Rattle.std.proofs.Common.{sym, subst, ap, ◌∙◌, inl, inr, arith}
use Rattle.std.proofs.lemmas.List.{length-replicate, append-nil}
use Rattle.ll_rights.specs.declared.limits.TheConstants.{TREE_CLIENTS}
use Rattle.ll_rights.specs.Map.{Map, checked, empty, entries, get, insert, len, has}
use Rattle.ll_rights.proofs.Maps.{get-empty, get-insert_same, got_inserted, insert_cases}
use Rattle.ll_rights.specs.declared.kind.Kind.TheVariants.{Dir}
use Rattle.ll_seq.specs.declared.node.Node.{Node}
use Rattle.ll_seq.specs.declared.rules.Rules.{Rules}
use Rattle.ll_seq.specs.State.{start, root, empty_node}
use Rattle.ll_seq.specs.Facts.{AreKept}
use Rattle.ll_node.proofs.SlotLists.{same_Some}
use Rattle.ll_node.specs.InodeTable.{Table, IsTable, ArePlaced, AreDistinct, IsVacant, NotIn}

-- so many numbers, and one more
pub one_more : (first count : ℕ) → range_with_len first (count + 1) ≡ range_with_len first count ++ (first + count) ∷ []
one_more first zero = ap (λ n. n ∷ []) (omega arith)
one_more first (suc count) =
    let longer : suc count + 1 ≡ suc (count + 1) = omega arith in
    let same : first + 1 + count ≡ first + suc count = omega arith in
    ap (range_with_len first) longer
    ∙ ap (λ ns. first ∷ ns) (one_more (first + 1) count ∙ ap (λ n. range_with_len (first + 1) count ++ n ∷ []) same)

abbrev vacant : ℕ → List ℕ
vacant others = replicate others 0

vacant_at : (others k : ℕ) → k < others → slice_get (vacant others) k ≡ Some 0
vacant_at zero k lt = absurd (omega arith)
vacant_at (suc others) zero lt = refl
vacant_at (suc others) (suc k) lt = vacant_at others k (omega arith)

nothing_else : (others k inode : ℕ) → slice_get (vacant others) k ≡ Some inode → inode ≡ 0
nothing_else zero k inode e = absurd (cc e)
nothing_else (suc others) zero inode e = sym (same_Some 0 inode e)
nothing_else (suc others) (suc k) inode e = nothing_else others k inode e

abbrev opened : ℕ → List ℕ
opened others = 1 ∷ vacant others

-- all slots but the first are vacant
vacant_slots : (others first count : ℕ) → first + count ≤ others
    → AllByRecursion (IsVacant (opened others)) (range_with_len (suc first) count)
vacant_slots others first zero fits = tt
vacant_slots others first (suc count) fits =
    let next : suc (suc first) ≡ suc first + 1 = omega arith in (
      vacant_at others first (omega arith),
      subst (λ n. AllByRecursion (IsVacant (opened others)) (range_with_len n count)) next
          (vacant_slots others (suc first) count (omega arith)),
    )

abbrev places : Map nat_cmp ℕ
places = insert empty 1 0

lies : (others slot inode : ℕ) → slice_get (opened others) slot ≡ Some inode → inode ≢ 0 → get places inode ≡ Some slot
lies others zero inode e some =
    ap (get places) (sym (same_Some 1 inode e)) ∙ get-insert_same nat_cmp_total nat_cmp-IsAntisymmetric empty 1 0
lies others (suc slot) inode e some = absurd (some (nothing_else others slot inode e))

there : (others inode slot : ℕ) → ((inode ≡ 1) × (slot ≡ 0)) ⊎ (get {X = ℕ} {R = nat_cmp} empty inode ≡ Some slot)
    → (slice_get (opened others) slot ≡ Some inode) × (inode ≢ 0)
there others inode slot (inl a) = let one = a.0 in
    (ap (slice_get (opened others)) a.1 ∙ ap Some (sym a.0), λ z. absurd (omega (arith, one, z)))
there others inode slot (inr a) = absurd (cc (sym (get-empty ℕ nat_cmp inode) ∙ a))

-- the root lies in the first
placed : (others : ℕ) → ArePlaced (opened others) places
placed others = record {
  lies = lies others;
  there = λ inode slot e. there others inode slot
      (got_inserted nat_cmp_total nat_cmp-IsAntisymmetric empty 1 0 inode slot e);
}

-- only the root lives
root_alone : (rules : Rules) (room inode : ℕ) → has places inode ≡ has (start rules room).nodes inode
root_alone rules room inode =
    by (insert_cases nat_cmp_total nat_cmp-IsAntisymmetric empty 1 0 inode)
    (insert_cases nat_cmp_total nat_cmp-IsAntisymmetric empty root (empty_node Dir) inode)
  where
    nothing : get {X = ℕ} {R = nat_cmp} empty inode ≡ None
    nothing = get-empty ℕ nat_cmp inode

    by : ((inode ≡ 1) × (get places inode ≡ Some 0))
        ⊎ ((inode ≢ 1) × (get places inode ≡ get {X = ℕ} {R = nat_cmp} empty inode))
        → ((inode ≡ root) × (get (start rules room).nodes inode ≡ Some (empty_node Dir)))
        ⊎ ((inode ≢ root) × (get (start rules room).nodes inode ≡ get {X = Node} {R = nat_cmp} empty inode))
        → has places inode ≡ has (start rules room).nodes inode
    by (inl a) (inl b) = ap is_some a.1 ∙ sym (ap is_some b.1)
    by (inl a) (inr b) = absurd (b.0 a.0)
    by (inr a) (inl b) = absurd (a.0 b.0)
    by (inr a) (inr b) = ap is_some (a.1 ∙ nothing) ∙ sym (ap is_some (b.1 ∙ get-empty Node nat_cmp inode))

range_above : (first count k : ℕ) → k < first → NotIn k (range_with_len first count)
range_above first zero k lt = tt
range_above first (suc count) k lt = (λ e. absurd (omega arith), range_above (first + 1) count k (omega arith))

range_distinct : (first count : ℕ) → AreDistinct (range_with_len first count)
range_distinct first zero = tt
range_distinct first (suc count) = (range_above (first + 1) count first (omega arith), range_distinct (first + 1) count)

one_node : (rules : Rules) (room : ℕ) → len (start rules room).nodes ≡ 1
unfolding insert empty entries checked
one_node rules room = refl

length-range : (first count : ℕ) → length (range_with_len first count) ≡ count
length-range first zero = refl
length-range first (suc count) = ap suc (length-range (first + 1) count)

abbrev opened_table : (others : ℕ) (t : Table) → Table
opened_table others t = record {
  facts = t.facts;
  next = 2;
  inodes = opened others;
  places = places;
  free = range_with_len 1 others;
}

new_is : (rules : Rules) (room others : ℕ) (t : Table) → 1 ≤ room → others ≡ room + TREE_CLIENTS - 1
    → AreKept (start rules room) t.facts → IsTable (start rules room) [] (opened_table others t)
new_is rules room others t some all facts = record {
  facts = facts;
  next = refl;
  placed = placed others;
  living = root_alone rules room;
  slots = ap suc (length-replicate others 0) ∙ (omega (arith, all));
  free = vacant_slots others 0 others (omega arith);
  spares = tt;
  distinct = subst AreDistinct (sym (append-nil (range_with_len 1 others))) (range_distinct 1 others);
  count = let free = length-range 1 others in let nodes = one_node rules room in omega (arith, all, free, nodes);
  few = subst (λ n. n ≤ room) (sym (one_node rules room)) some;
}

pub new_table : (t : Table) (room others : ℕ) → 1 ≤ room → others ≡ room + TREE_CLIENTS - 1
    → ((rules : Rules) (room : ℕ) → AreKept (start rules room) t.facts)
    → t.next ≡ 2 → t.inodes ≡ opened others → t.places ≡ places → t.free ≡ range_with_len 1 others → (rules : Rules)
    → IsTable (start rules room) [] t
new_table t room others some all facts next inodes found free rules =
    subst (IsTable (start rules room) [])
    (λ i. record {
      facts = t.facts;
      next = sym next i;
      inodes = sym inodes i;
      places = sym found i;
      free = sym free i;
    })
    (new_is rules room others t some all (facts rules room))
