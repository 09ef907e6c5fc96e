-- A table stays that of its tree: where no node comes or goes, where one comes, and where one goes.
use Rattle.std.specs.Prelude.{◌≡◌, ◌≢◌, ◌⊎◌, ℕ, zero, suc, ◌+◌, ◌<◌, ◌≤◌, Bool, true, false, not, ◌&&◌, List, [], ◌∷◌}
use Rattle.std.specs.Prelude.{◌++◌, length, option_map, Option, Some, None, is_some, slice_get, slice_set}
use Rattle.std.specs.Prelude.{if◌then◌else◌, refl}
use Rattle.std.specs.List.{AllByRecursion}
use Rattle.std.specs.Ordering.{nat_cmp}
use Rattle.std.specs.Cmp.{nat_cmp_total}
use Rattle.std.specs.FinMap.{nat_cmp-IsAntisymmetric}
use Rattle.std.proofs.Common.{sym, subst, ap, ◌∙◌, inl, inr, arith, length-append}
use Rattle.std.proofs.lemmas.List.{length-map, length-set}
use Rattle.ll_rights.specs.declared.kind.Kind.{Kind}
use Rattle.ll_rights.specs.declared.limits.TheConstants.{TREE_CLIENTS}
use Rattle.ll_rights.specs.Map.{Map, get, has, insert, remove, len}
use Rattle.ll_rights.proofs.Maps.{get-insert_same, get-insert_other, got_inserted, insert_cases, got_left}
use Rattle.ll_rights.proofs.Maps.{get-remove_other}
use Rattle.ll_seq.specs.declared.dentries.Dentry.{Dentry}
use Rattle.ll_seq.specs.declared.facts.Fact.{Fact}
use Rattle.ll_seq.specs.declared.node.Node.{Node}
use Rattle.ll_seq.specs.State.{State, empty_node}
use Rattle.ll_seq.specs.Effects.{with_node, lives, let_go}
use Rattle.ll_seq.specs.Facts.{AreKept}
use Rattle.ll_node.specs.InodeTable.{Table, IsTable, ArePlaced, AreDistinct, IsVacant, without_inode}
use Rattle.ll_rights.proofs.Sizes.{one_comes, one_goes}
use Rattle.ll_node.proofs.SlotLists.{same_Some, same_or_not, set_same, set_other, all_set, all_more, all_less}
use Rattle.ll_node.proofs.SlotLists.{distinct_lent, distinct_right, last_apart, not_free, no_spare, distinct_freed}
use Rattle.ll_node.proofs.SlotLists.{taken_out, vacant_still, without_get, out_of, out_other, left_there, gone_from}
use Rattle.ll_node.proofs.SlotLists.{without_nothing, vacant_without, without_none, without_one}

-- what is found of a number that there is
there_is : {X : Type 0} (o : Option X) → is_some o ≡ true → (x : X) × (o ≡ Some x)
there_is None e = absurd (cc e)
there_is (Some x) e = (x, refl)

-- ---- nothing comes or goes

module _ (s : State) (spares : List ℕ) (t : Table) (table : IsTable s spares t) where
  pub still_table : (u : State) (facts : Map nat_cmp Fact) → u.nodes ≡ s.nodes → u.next ≡ s.next → u.room ≡ s.room
      → AreKept u facts → IsTable u spares (record t { facts = facts })
  still_table u facts nodes next room kept = record {
    facts = kept;
    next = table.next ∙ sym next;
    placed = table.placed;
    living = λ inode. table.living inode ∙ ap (λ m. has m inode) (sym nodes);
    slots = table.slots ∙ ap (λ n. n + TREE_CLIENTS) (sym room);
    free = table.free;
    spares = table.spares;
    distinct = table.distinct;
    count = ap (λ m. length t.free + length spares + len m) nodes ∙ table.count ∙ ap (λ n. n + TREE_CLIENTS) (sym room);
    few = let most = table.few in let many = ap len nodes in omega (arith, most, many, room);
  }

-- ---- an inode comes

module _ (inodes : List ℕ) (places : Map nat_cmp ℕ) (placed : ArePlaced inodes places) where
  placed_more : (spare inode : ℕ) → slice_get inodes spare ≡ Some 0 → inode ≢ 0 → get places inode ≡ None
      → ArePlaced (slice_set inodes spare inode) (insert places inode spare)
  placed_more spare inode vacant some new =
      record {
        lies = lies;
        there = λ i slot e. there i slot
            (got_inserted nat_cmp_total nat_cmp-IsAntisymmetric places inode spare i slot e);
      }
    where
      lies : (slot i : ℕ) → slice_get (slice_set inodes spare inode) slot ≡ Some i → i ≢ 0
          → get (insert places inode spare) i ≡ Some slot
      lies slot i at one = elim (same_or_not spare slot) [
        | inl same ↦ (let is : inode ≡ i = same_Some inode i (sym (set_same inodes spare 0 inode vacant)
            ∙ ap (slice_get (slice_set inodes spare inode)) same ∙ at) in
            ap (get (insert places inode spare)) (sym is)
            ∙ get-insert_same nat_cmp_total nat_cmp-IsAntisymmetric places inode spare ∙ ap Some same)
        | inr differ ↦ (let before = placed.lies slot i (sym (set_other inodes spare slot inode differ) ∙ at) one in
            get-insert_other nat_cmp_total nat_cmp-IsAntisymmetric places inode spare i
            (λ e. cc (sym new ∙ ap (get places) (sym e) ∙ before)) ∙ before)
      ]

      there : (i slot : ℕ) → ((i ≡ inode) × (slot ≡ spare)) ⊎ (get places i ≡ Some slot)
          → (slice_get (slice_set inodes spare inode) slot ≡ Some i) × (i ≢ 0)
      there i slot (inl a) = (
        ap (slice_get (slice_set inodes spare inode)) a.1 ∙ set_same inodes spare 0 inode vacant
            ∙ ap Some (sym a.0),
        λ e. some (sym a.0 ∙ e),
      )
      there i slot (inr a) =
          let before = placed.there i slot a in (
            set_other inodes spare slot inode
                (λ e. before.1 (same_Some i 0 (sym before.0 ∙ ap (slice_get inodes) (sym e) ∙ vacant)))
                ∙ before.0,
            before.1,
          )

all_at : (P : ℕ → Type 0) (ks : List ℕ) (i k : ℕ) → AllByRecursion P ks → slice_get ks i ≡ Some k → P k
all_at P [] i k all at = absurd (cc at)
all_at P (j ∷ ks) zero k all at = subst P (same_Some j k at) all.0
all_at P (j ∷ ks) (suc i) k all at = all_at P ks i k all.1 at

lives_too : (m : Map nat_cmp ℕ) (n : Map nat_cmp Node) (k slot : ℕ) (node : Node) (i : ℕ) → has m i ≡ has n i
    → has (insert m k slot) i ≡ has (insert n k node) i
lives_too m n k slot node i same =
    by (insert_cases nat_cmp_total nat_cmp-IsAntisymmetric m k slot i)
    (insert_cases nat_cmp_total nat_cmp-IsAntisymmetric n k node i)
  where
    by : ((i ≡ k) × (get (insert m k slot) i ≡ Some slot)) ⊎ ((i ≢ k) × (get (insert m k slot) i ≡ get m i))
        → ((i ≡ k) × (get (insert n k node) i ≡ Some node)) ⊎ ((i ≢ k) × (get (insert n k node) i ≡ get n i))
        → has (insert m k slot) i ≡ has (insert n k node) i
    by (inl a) (inl b) = ap is_some a.1 ∙ sym (ap is_some b.1)
    by (inl a) (inr b) = absurd (b.0 a.0)
    by (inr a) (inl b) = absurd (a.0 b.0)
    by (inr a) (inr b) = ap is_some a.1 ∙ same ∙ sym (ap is_some b.1)

-- a new node lies in the spare slot, and the last of the free slots becomes the spare
abbrev pub made : Table → Map nat_cmp Fact → ℕ → List ℕ → Table
made t facts spare free = record {
  facts = facts;
  next = t.next + 1;
  inodes = slice_set t.inodes spare t.next;
  places = insert t.places t.next spare;
  free = free;
}

module _ (s : State) (spares : List ℕ) (t : Table) (table : IsTable s spares t) where
  no_place : (o : Option ℕ) → is_some o ≡ false → o ≡ None
  no_place None e = refl
  no_place (Some slot) e = absurd (cc e)

  -- nothing is known of a number that is yet to be given
  pub unplaced : get t.places t.next ≡ None
  unplaced =
      no_place (get t.places t.next)
      (table.living t.next ∙ ap is_some (ap (get s.nodes) table.next ∙ (table.facts.unused s.next (omega arith)).node))

  pub more_table : (kind : Kind) (at : Dentry) (facts : Map nat_cmp Fact) (place spare fresh : ℕ) (free : List ℕ)
      → slice_get spares place ≡ Some spare → t.free ≡ free ++ fresh ∷ []
      → t.next ≢ 0 → len s.nodes < s.room → AreKept (with_node s kind at) facts
      → IsTable (with_node s kind at) (slice_set spares place fresh) (made t facts spare free)
  more_table kind at facts place spare fresh free lent last some room kept = record {
    facts = kept;
    next = ap (λ n. n + 1) table.next;
    placed = placed_more t.inodes t.places table.placed spare t.next vacant some unplaced;
    living = λ inode. lives_too t.places s.nodes t.next spare (empty_node kind) inode (table.living inode)
        ∙ ap (λ n. has (insert s.nodes n (empty_node kind)) inode) table.next;
    slots = length-set t.inodes spare t.next ∙ table.slots;
    free = vacant_still t.inodes spare t.next free (not_free free spares fresh place spare apart lent) slots.0;
    spares = vacant_still t.inodes spare t.next (slice_set spares place fresh)
        (no_spare spares fresh place spare (distinct_right (free ++ fresh ∷ []) spares apart)
        (last_apart free spares fresh apart) lent)
        (all_set (IsVacant t.inodes) spares place fresh table.spares slots.1);
    distinct = distinct_lent free spares fresh place apart;
    count =
        let one_slot : length t.free ≡ length free + 1 = ap length last ∙ length-append free (fresh ∷ []) in
        let many = length-set spares place fresh in
        let sum = table.count in
        omega (arith, one_slot, many, sum, one_node);
    few = omega (arith, one_node, room);
  }
    where
      apart : AreDistinct ((free ++ fresh ∷ []) ++ spares)
      apart = subst (λ ks. AreDistinct (ks ++ spares)) last table.distinct

      slots : AllByRecursion (IsVacant t.inodes) free × IsVacant t.inodes fresh
      slots = all_less (IsVacant t.inodes) free fresh (subst (AllByRecursion (IsVacant t.inodes)) last table.free)

      vacant : IsVacant t.inodes spare
      vacant = all_at (IsVacant t.inodes) spares place spare table.spares lent

      one_node : len (insert s.nodes s.next (empty_node kind)) ≡ len s.nodes + 1
      one_node = one_comes s.nodes s.next (empty_node kind) (table.facts.unused s.next (omega arith)).node

module _ (s : State) (spares : List ℕ) (t : Table) (table : IsTable s spares t) where
  -- the numbers of nodes begin above 0
  numbered : (inode : ℕ) → has s.nodes inode ≡ true → t.next ≢ 0
  numbered inode there none =
      let next : s.next ≤ inode = let same = table.next in omega (arith, same, none) in
      cc (sym there ∙ ap is_some (table.facts.unused inode next).node)

  pub made_table : (kind : Kind) (at : Dentry) (place spare fresh : ℕ) (u : Table) → slice_get spares place ≡ Some spare
      → t.free ≡ u.free ++ fresh ∷ [] → has s.nodes at.directory ≡ true → len s.nodes < s.room
      → AreKept (with_node s kind at) u.facts → u.next ≡ t.next + 1 → u.inodes ≡ slice_set t.inodes spare t.next
      → u.places ≡ insert t.places t.next spare → IsTable (with_node s kind at) (slice_set spares place fresh) u
  made_table kind at place spare fresh u lent last there room kept next inodes places =
      subst (IsTable (with_node s kind at) (slice_set spares place fresh))
      (λ i. record {
        facts = u.facts;
        next = sym next i;
        inodes = sym inodes i;
        places = sym places i;
        free = u.free;
      })
      (more_table s spares t table kind at u.facts place spare fresh u.free lent last (numbered at.directory there) room
      kept)

-- ---- an inode goes

module _ (inodes : List ℕ) (places : Map nat_cmp ℕ) (placed : ArePlaced inodes places) (inode : ℕ) where
  placed_less : ArePlaced (without_inode inodes inode) (remove places inode)
  placed_less = record {
    lies = λ slot i at some.
        let before = left_there inodes inode slot i at some in
        get-remove_other nat_cmp_total nat_cmp-IsAntisymmetric places inode i before.1
        ∙ placed.lies slot i before.0 some;
    there = λ i slot e.
        let left = got_left nat_cmp_total nat_cmp-IsAntisymmetric places inode i slot e in
        let before = placed.there i slot left.0 in (
          without_get inodes inode slot ∙ ap (option_map (out_of inode)) before.0
              ∙ ap Some (out_other inode i left.1),
          before.1,
        );
  }

  -- it lies in the slot that the places tell, and in no other
  pub cleared : (slot : ℕ) → get places inode ≡ Some slot → slice_set inodes slot 0 ≡ without_inode inodes inode
  cleared slot at =
      let it = placed.there inode slot at in
      without_one inodes inode slot it.0 (λ k e. same_Some k slot (sym (placed.lies k inode e it.1) ∙ at))

  -- and where they tell none, in none
  pub never_there : get places inode ≡ None → without_inode inodes inode ≡ inodes
  never_there none = elim (same_or_not inode 0) [
    | inl nothing ↦ without_nothing inodes inode nothing
    | inr some ↦ without_none inodes inode (λ k e. cc (sym none ∙ placed.lies k inode e some))
  ]

-- the slot of a node that goes becomes free
abbrev pub vacated : Table → ℕ → ℕ → Table
vacated t inode slot = record t {
  inodes = without_inode t.inodes inode;
  places = remove t.places inode;
  free = t.free ++ slot ∷ [];
}

none_left : {X : Type 0} (m : Map nat_cmp X) (k i : ℕ) (o : Option X) → i ≡ k → get (remove m k) i ≡ o
    → is_some o ≡ false
none_left m k i None same e = refl
none_left m k i (Some x) same e = absurd ((got_left nat_cmp_total nat_cmp-IsAntisymmetric m k i x e).1 same)

gone : {X : Type 0} (m : Map nat_cmp X) (k i : ℕ) → i ≡ k → has (remove m k) i ≡ false
gone m k i same = none_left m k i (get (remove m k) i) same refl

dies_too : (m : Map nat_cmp ℕ) (n : Map nat_cmp Node) (k i : ℕ) → has m i ≡ has n i
    → has (remove m k) i ≡ has (remove n k) i
dies_too m n k i same = elim (same_or_not i k) [
  | inl it ↦ gone m k i it ∙ sym (gone n k i it)
  | inr other ↦ ap is_some (get-remove_other nat_cmp_total nat_cmp-IsAntisymmetric m k i other) ∙ same
      ∙ sym (ap is_some (get-remove_other nat_cmp_total nat_cmp-IsAntisymmetric n k i other))
]

-- an inode that lies in a slot lives
pub known_alive : (s : State) (spares : List ℕ) (t : Table) → IsTable s spares t → (inode slot : ℕ)
    → get t.places inode ≡ Some slot → has s.nodes inode ≡ true
known_alive s spares t table inode slot at = sym (table.living inode) ∙ ap is_some at

module _ (s : State) (spares : List ℕ) (t : Table) (table : IsTable s spares t) (inode : ℕ)
    (alive : has s.nodes inode ≡ true) where
  pub its_slot : (slot : ℕ) × (get t.places inode ≡ Some slot)
  its_slot = there_is (get t.places inode) (table.living inode ∙ alive)

  one_node_less : len (remove s.nodes inode) + 1 ≡ len s.nodes
  one_node_less = let node = there_is (get s.nodes inode) alive in one_goes s.nodes inode node.0 node.1

  -- room is reserved for its slot
  pub slot_left : length t.free < length t.inodes
  slot_left = let sum = table.count in let slots = table.slots in let less = one_node_less in
      omega (arith, sum, slots, less)

  pub less_table : (u : State) (facts : Map nat_cmp Fact) (slot : ℕ) → u.nodes ≡ remove s.nodes inode → u.next ≡ s.next
      → u.room ≡ s.room → get t.places inode ≡ Some slot → AreKept u facts
      → IsTable u spares (record (vacated t inode slot) { facts = facts })
  less_table u facts slot nodes next room at kept = record {
    facts = kept;
    next = table.next ∙ sym next;
    placed = placed_less t.inodes t.places table.placed inode;
    living = λ i. dies_too t.places s.nodes inode i (table.living i) ∙ ap (λ m. has m i) (sym nodes);
    slots = length-map t.inodes (out_of inode) ∙ table.slots ∙ ap (λ n. n + TREE_CLIENTS) (sym room);
    free = all_more (IsVacant (without_inode t.inodes inode)) t.free slot
        (vacant_without t.inodes inode t.free table.free) (gone_from t.inodes inode slot it.0);
    spares = vacant_without t.inodes inode spares table.spares;
    distinct = distinct_freed t.free spares slot (taken_out t.inodes slot inode t.free it.0 it.1 table.free)
        (taken_out t.inodes slot inode spares it.0 it.1 table.spares) table.distinct;
    count =
        let one_slot = length-append t.free (slot ∷ []) in
        let sum = table.count in
        let less = one_node_less in
        let many = ap len nodes in
        omega (arith, one_slot, sum, less, many, room);
    few = let most = table.few in let less = one_node_less in let many = ap len nodes in
        omega (arith, most, less, many, room);
  }
    where
      it : (slice_get t.inodes slot ≡ Some inode) × (inode ≢ 0)
      it = table.placed.there inode slot at

-- ---- where nothing may keep a node any more

module _ (s : State) (spares : List ℕ) (t : Table) (table : IsTable s spares t) (u : State) (facts : Map nat_cmp Fact)
    (inode : ℕ) (nodes : u.nodes ≡ s.nodes) (next : u.next ≡ s.next) (room : u.room ≡ s.room)
    (kept : AreKept (let_go u inode) facts) where
  pub stays : lives u inode ≡ true → IsTable (let_go u inode) spares (record t { facts = facts })
  stays alive =
      let is : let_go u inode ≡ u = ap (λ b. if b then u else record u { nodes = remove u.nodes inode }) alive in
      still_table s spares t table (let_go u inode) facts (ap (λ (v : State). v.nodes) is ∙ nodes)
      (ap (λ (v : State). v.next) is ∙ next) (ap (λ (v : State). v.room) is ∙ room) kept

  pub goes : lives u inode ≡ false → has s.nodes inode ≡ true → (slot : ℕ) → get t.places inode ≡ Some slot
      → IsTable (let_go u inode) spares (record (vacated t inode slot) { facts = facts })
  goes dead alive slot at =
      let is : let_go u inode ≡ record u { nodes = remove u.nodes inode } =
      ap (λ b. if b then u else record u { nodes = remove u.nodes inode }) dead in
      less_table s spares t table inode alive (let_go u inode) facts slot (ap (λ (v : State). v.nodes) is
      ∙ ap (λ m. remove m inode) nodes) (ap (λ (v : State). v.next) is ∙ next) (ap (λ (v : State). v.room) is
      ∙ room) at kept

pub dead_is : (alive : Bool) → true ≡ not alive → alive ≡ false
dead_is true e = absurd (cc e)
dead_is false e = refl

pub alive_is : (alive : Bool) → false ≡ not alive → alive ≡ true
alive_is true e = refl
alive_is false e = absurd (cc e)

pub replaced_dies : (same alive : Bool) → true ≡ (not same && not alive) → (same ≡ false) × (alive ≡ false)
replaced_dies true alive e = absurd (cc e)
replaced_dies false true e = absurd (cc e)
replaced_dies false false e = (refl, refl)
