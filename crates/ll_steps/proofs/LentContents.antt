-- The slots that are lent to a step, and what lies in all of them after it.
use Rattle.std.specs.Prelude.{◌≡◌, ◌≢◌, ◌⊎◌, ℕ, ◌+◌, ◌-◌, ◌<◌, List, [], ◌∷◌, ◌++◌, map, length, slice_set}
use Rattle.std.specs.Prelude.{slice_index_or, Option, None, Some, IfSome, refl}
use Rattle.std.specs.List.{AllByRecursion}
use Rattle.std.proofs.Common.{sym, ap, subst, ◌∙◌, inl, inr, arith}
use Rattle.std.proofs.Math.Seq.{set-append_left}
use Rattle.std.proofs.lemmas.List.{get_or-set_same, get_or_default, get_or_append_left, get_or-append-add, length-set}
use Rattle.std.proofs.lemmas.List.{set-append_right}
use Rattle.ll_seq.specs.State.{Name, child, kind_of}
use Rattle.ll_laws.specs.World.{World, shown}
use Rattle.ll_node.specs.declared.held.Held.{Held}
use Rattle.ll_node.specs.Lent.{vacant}
use Rattle.ll_node.specs.InodeTable.{NotIn}
use Rattle.ll_node.proofs.SlotLists.{same_or_not}
use Rattle.ll_journal.specs.Book.{Book, Spares, held_of, inode_in, slot_of}
use Rattle.ll_journal.specs.SlotTree.{accounts_of}
use Rattle.ll_journal.proofs.EntryDirs.{all_in}
use Rattle.ll_journal.proofs.LentSlots.{slot_holds}
use Rattle.ll_journal.specs.Stations.{Names, call_of}
use Rattle.ll_journal.specs.declared.onward.Onward.{Onward}
use Rattle.ll_seq.specs.declared.call.Call.{Call}
use Rattle.ll_steps.specs.Contents.{IsHint, held_at}
use Rattle.ll_steps.proofs.ContentsKept.{account_at, length_accounts, filled_so}
use Rattle.ll_steps.proofs.TradedSlots.{elsewhere}

-- what is lent of slots of these numbers
pub lent_accounts : (b : Book) (slots : List Held) (ks : List ℕ) → slots ≡ accounts_of b
    → AllByRecursion (λ k. k < length b.inodes) ks → map (held_at slots) ks ≡ map (slot_of b) ks
lent_accounts b slots [] e there = refl
lent_accounts b slots (k ∷ ks) e there = λ i. account_at b slots k e there.0 i ∷ lent_accounts b slots ks e there.1 i

pub bounds_of : (b : Book) (slots : List Held) (ks : List ℕ) → slots ≡ accounts_of b
    → AllByRecursion (λ k. k < length b.inodes) ks → AllByRecursion (λ k. k < length slots) ks
bounds_of b slots ks e there = subst (λ n. AllByRecursion (λ k. k < n) ks) (sym (ap length e ∙ length_accounts b)) there

pub bound_of : (b : Book) (slots : List Held) (k : ℕ) → slots ≡ accounts_of b → k < length b.inodes → k < length slots
bound_of b slots k e there = subst (λ n. k < n) (sym (ap length e ∙ length_accounts b)) there

pub lent_in : (b : Book) (slots : List Held) (ks : List ℕ) → slots ≡ accounts_of b
    → AllByRecursion (λ k. k < length slots) ks → map (held_at slots) ks ≡ map (slot_of b) ks
lent_in b slots ks e there = lent_accounts b slots ks e
    (subst (λ n. AllByRecursion (λ k. k < n) ks) (ap length e ∙ length_accounts b) there)

-- where the slots and the numbers are read again
pub bounds_again : (b : Book) (slots read : List Held) (ks numbers : List ℕ) → slots ≡ accounts_of b → read ≡ slots
    → numbers ≡ ks → AllByRecursion (λ k. k < length b.inodes) ks → AllByRecursion (λ k. k < length read) numbers
bounds_again b slots read ks numbers e same all there =
    subst (λ (xs : List Held). AllByRecursion (λ k. k < length xs) numbers) (sym same)
    (bounds_of b slots numbers e (subst (AllByRecursion (λ k. k < length b.inodes)) (sym all) there))

pub bound_again : (b : Book) (slots read : List Held) (k : ℕ) → slots ≡ accounts_of b → read ≡ slots
    → k < length b.inodes → k < length read
bound_again b slots read k e same there =
    subst (λ (xs : List Held). k < length xs) (sym same) (bound_of b slots k e there)

-- what is read at an index
pub at_index : (b : Book) (slots : List Held) (k : ℕ) (held : Held) → slots ≡ accounts_of b → k < length b.inodes
    → held ≡ slice_index_or slots k held → held ≡ slot_of b k
at_index b slots k held e lt is =
    is ∙ get_or_default slots k held vacant (bound_of b slots k e lt) ∙ account_at b slots k e lt

pub some_bound : (b : Book) (slots : List Held) (o : Option ℕ) → slots ≡ accounts_of b
    → IfSome o (λ k. k < length b.inodes) → IfSome o (λ k. k < length slots)
some_bound b slots None e lt = tt
some_bound b slots (Some k) e lt = bound_of b slots k e lt

-- of an inode that lies there
pub held_at_index : (b : Book) (slots : List Held) (k inode : ℕ) (held : Held) → slots ≡ accounts_of b
    → k < length b.inodes → held ≡ slice_index_or slots k held → (inode ≢ 0) × (inode_in b k ≡ inode)
    → held ≡ held_of b.world inode
held_at_index b slots k inode held e lt is lies = at_index b slots k held e lt is ∙ slot_holds b k inode lies.1 lies.0

-- what is no node has no entry
pub no_child : (w : World) (d : ℕ) (name : Name) → kind_of (shown w) d ≡ None → child (shown w) d name ≡ None
no_child w d name none = by (child (shown w) d name) refl
  where
    by : (o : Option ℕ) → child (shown w) d name ≡ o → o ≡ None
    by None e = refl
    by (Some x) e = let node = all_in w d name x e in absurd (cc (sym none ∙ node.1))

-- and within the slots
pub within_accounts : (b : Book) (slots : List Held) (k : ℕ) → slots ≡ accounts_of b → k < length slots
    → k < length b.inodes
within_accounts b slots k e lt = subst (λ n. k < n) (ap length e ∙ length_accounts b) lt

pub at_slot : (b : Book) (slots : List Held) (k : ℕ) (held : Held) → slots ≡ accounts_of b → k < length slots
    → held ≡ slice_index_or slots k held → held ≡ slot_of b k
at_slot b slots k held e lt is = at_index b slots k held e (within_accounts b slots k e lt) is

pub got_slot : (b : Book) (slots : List Held) (k : ℕ) (held : Held) → slots ≡ accounts_of b → k < length slots
    → slice_index_or slots k held ≡ slot_of b k
got_slot b slots k held e lt = get_or_default slots k held vacant lt
    ∙ account_at b slots k e (within_accounts b slots k e lt)

same_head : (x y : Held) (xs ys : List Held) → (x ∷ xs) ≡ (y ∷ ys) → x ≡ y
same_head x y xs ys e = cc e

same_tail : (x y : Held) (xs ys : List Held) → (x ∷ xs) ≡ (y ∷ ys) → xs ≡ ys
same_tail x y xs ys e = cc e

-- a slot is one of these, or none
each_or_out : (f g : ℕ → Held) (ks : List ℕ) (j : ℕ) → map f ks ≡ map g ks → (f j ≡ g j) ⊎ NotIn j ks
each_or_out f g [] j e = inr tt
each_or_out f g (k ∷ ks) j e = elim (same_or_not j k) [
  | inl same ↦ inl (subst (λ i. f i ≡ g i) (sym same) (same_head (f k) (g k) (map f ks) (map g ks) e))
  | inr other ↦ elim (each_or_out f g ks j (same_tail (f k) (g k) (map f ks) (map g ks) e))
      [ inl h ↦ inl h | inr out ↦ inr (other, out) ]
]

-- what was lent is put back as it has to be, and the others were spared
pub put_back : (b b' : Book) (slots new : List Held) (ks : List ℕ) → slots ≡ accounts_of b → Spares b b' ks
    → length new ≡ length slots
    → map (held_at new) ks ≡ map (slot_of b') ks → ((j : ℕ) → NotIn j ks → held_at new j ≡ held_at slots j)
    → new ≡ accounts_of b'
put_back b b' slots new ks e spares size put others =
    filled_so b' new (size ∙ ap length e ∙ length_accounts b ∙ sym spares.size)
    (λ j lt. elim (each_or_out (held_at new) (slot_of b') ks j put) [
      | inl h ↦ h
      | inr out ↦ others j out ∙ account_at b slots j e (subst (λ n. j < n) spares.size lt) ∙ sym (spares.slots j out)
    ])

-- one slot
pub put_one : (b b' : Book) (slots : List Held) (k : ℕ) (held : Held) → slots ≡ accounts_of b → k < length b.inodes
    → Spares b b' (k ∷ []) → held ≡ slot_of b' k
    → slice_set slots k held ≡ accounts_of b'
put_one b b' slots k held e there spares is =
    put_back b b' slots (slice_set slots k held) (k ∷ []) e spares (length-set slots k held)
    (λ i. (get_or-set_same slots k held vacant (bound_of b slots k e there) ∙ is) i ∷ [])
    (λ j out. elsewhere slots k j held out.0)

-- ---- two slots, where all are parted at the later one

module _ (slots front back : List Held) (parts : slots ≡ front ++ back) where
  pub in_front : (k : ℕ) (d : Held) → k < length front → slice_index_or front k d ≡ held_at slots k
  in_front k d lt = get_or_default front k d vacant lt ∙ sym (get_or_append_left front back vacant k lt)
      ∙ ap (λ (xs : List Held). held_at xs k) (sym parts)

  pub in_back : (l : ℕ) (d : Held) → length front ≡ l → 0 < length back → slice_index_or back 0 d ≡ held_at slots l
  in_back l d size lt =
      let here : length front + 0 ≡ l = omega (arith, size) in
      get_or_default back 0 d vacant lt ∙ sym (get_or-append-add front back 0 vacant)
      ∙ (λ i. held_at (sym parts i) (here i))

  pub put_two : (b b' : Book) (k l : ℕ) (first second : Held) → slots ≡ accounts_of b → length front ≡ l → k < l
      → l < length slots → Spares b b' (k ∷ l ∷ []) → first ≡ slot_of b' k → second ≡ slot_of b' l
      → slice_set front k first ++ slice_set back 0 second ≡ accounts_of b'
  put_two b b' k l first second e size before within spares f s =
      together ∙ put_back b b' slots (slice_set (slice_set slots k first) l second) (k ∷ l ∷ []) e spares
      (length-set (slice_set slots k first) l second ∙ length-set slots k first)
      (λ i. at_first i ∷ at_second i ∷ [])
      (λ j absent. elsewhere (slice_set slots k first) l j second absent.1.0 ∙ elsewhere slots k j first absent.0)
    where
      together : slice_set front k first ++ slice_set back 0 second ≡ slice_set (slice_set slots k first) l second
      together =
          let none : l - l ≡ 0 = omega arith in
          sym (ap (λ (xs : List Held). slice_set (slice_set xs k first) l second) parts
          ∙ ap (λ (xs : List Held). slice_set xs l second)
          (set-append_left front back k first (omega (arith, size)))
          ∙ set-append_right (slice_set front k first) back l l second (length-set front k first ∙ size) (omega arith)
          ∙ ap (λ n. slice_set front k first ++ slice_set back n second) none)

      other : k ≢ l
      other same = absurd (omega (arith, same))

      at_first : held_at (slice_set (slice_set slots k first) l second) k ≡ slot_of b' k
      at_first = elsewhere (slice_set slots k first) l k second other
          ∙ get_or-set_same slots k first vacant (omega arith) ∙ f

      at_second : held_at (slice_set (slice_set slots k first) l second) l ≡ slot_of b' l
      at_second = get_or-set_same (slice_set slots k first) l second vacant
          (subst (λ n. l < n) (sym (length-set slots k first)) within) ∙ s

-- in whichever order they are told
pub spares_turned : (b b' : Book) (k l : ℕ) → Spares b b' (k ∷ l ∷ []) → Spares b b' (l ∷ k ∷ [])
spares_turned b b' k l spares = record {
  limit = spares.limit;
  size = spares.size;
  slots = λ j out. spares.slots j (out.1.0, (out.0, tt));
}

-- what is told of a slot holds of what it holds
pub hint_lent : (b : Book) (client slot : ℕ) (held : Held) (hint : Option Onward) → held ≡ slot_of b slot
    → IfSome hint (IsHint b client slot)
    → IfSome hint (λ on. (call : Call) → call_of b.world client ≡ Some call → Names call held on.name on.inode)
hint_lent b client slot held None is told = tt
hint_lent b client slot held (Some on) is told =
    λ call calls. subst (λ (h : Held). Names call h on.name on.inode) (sym is) (told call calls)
