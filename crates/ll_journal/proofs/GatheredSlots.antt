-- Slots, gathered by the inodes that lie in them.
use Rattle.std.specs.Prelude.{◌≡◌, ◌≢◌, ℕ, ◌+◌, ◌<◌, ◌≤◌, Bool, true, false, cond, ◌||◌, ◌==◌, List, [], ◌∷◌, ◌++◌}
use Rattle.std.specs.Prelude.{length, Option, Some, None, refl}
use Rattle.std.specs.List.{AllByRecursion, list_any}
use Rattle.std.specs.Option.{option_map_or}
use Rattle.std.specs.Ordering.{nat_cmp}
use Rattle.std.proofs.Common.{sym, subst, ap, ◌∙◌, arith}
use Rattle.std.proofs.lemmas.Bool.{eqb-true, eq-eqb}
use Rattle.std.proofs.lemmas.List.{length-append}
use Rattle.std.proofs.lemmas.Option.{slice_get_within}
use Rattle.ll_rights.specs.Map.{Map, get}
use Rattle.ll_seq.proofs.Parted.{or_left, or_right}
use Rattle.ll_node.specs.InodeTable.{ArePlaced, AreDistinct, NotIn}
use Rattle.ll_laws.specs.Walk.{Leg, Position, Above, Down, Split, is_in, legs}
use Rattle.ll_node.proofs.SlotLists.{all_more}
use Rattle.ll_journal.specs.Book.{Book, inode_in}
use Rattle.ll_journal.specs.Needs.{with_slot, with_slot_of, with_slots_of}
use Rattle.ll_journal.specs.WalkEnds.{is_lent}
use Rattle.ll_journal.proofs.Looks.{index_there}

-- ---- one more at the end

not_in : (ks : List ℕ) (k : ℕ) → is_in ks k ≡ false → NotIn k ks
not_in [] k e = tt
not_in (x ∷ ks) k e = elim (x == k) as (λ t. (x == k) ≡ t → (t || is_in ks k) ≡ false → NotIn k (x ∷ ks)) [
  | true ↦ λ t f. absurd (cc f)
  | false ↦ λ t f. (λ same. cc (sym t ∙ eq-eqb x k (sym same)), not_in ks k f)
] refl e

not_in_more : (ks : List ℕ) (x k : ℕ) → NotIn x ks → x ≢ k → NotIn x (ks ++ k ∷ [])
not_in_more [] x k away other = (other, tt)
not_in_more (y ∷ ks) x k away other = (away.0, not_in_more ks x k away.1 other)

distinct_more : (ks : List ℕ) (k : ℕ) → AreDistinct ks → NotIn k ks → AreDistinct (ks ++ k ∷ [])
distinct_more [] k each away = (tt, tt)
distinct_more (x ∷ ks) k each away =
    (not_in_more ks x k each.0 (λ same. away.0 (sym same)), distinct_more ks k each.1 away.1)

or_regroup : (a b c : Bool) → (a || (b || c)) ≡ ((a || b) || c)
or_regroup true b c = refl
or_regroup false b c = refl

or_none : (a : Bool) → (a || false) ≡ a
or_none true = refl
or_none false = refl

or_same : (a b : Bool) → (b ≡ true → a ≡ true) → a ≡ (a || b)
or_same true b h = refl
or_same false true h = h refl
or_same false false h = refl

-- ---- how many

few_slot : (slots : List ℕ) (slot : ℕ) → length (with_slot slots slot) ≤ length slots + 1
few_slot slots slot = elim (is_in slots slot) as (λ t. length (cond t slots (slots ++ slot ∷ [])) ≤ length slots + 1) [
  | true ↦ omega arith
  | false ↦ omega (arith, length-append slots (slot ∷ []))
]

few_slot_of : (places : Map nat_cmp ℕ) (slots : List ℕ) (inode : ℕ)
    → length (with_slot_of places slots inode) ≤ length slots + 1
few_slot_of places slots inode =
    elim (get places inode) as (λ o. length (option_map_or (with_slot slots) o slots) ≤ length slots + 1)
    [ None ↦ omega arith | Some k ↦ few_slot slots k ]

few_slots_of : (places : Map nat_cmp ℕ) (slots : List ℕ) (ls : List Leg)
    → length (with_slots_of places slots ls) ≤ length slots + length ls
few_slots_of places slots [] = omega arith
few_slots_of places slots (leg ∷ ls) =
    let rest = few_slots_of places (with_slot_of places slots leg.here) ls in
    let one = few_slot_of places slots leg.here in
    omega arith

few_legs : (at : Position) → length (legs at) ≤ 3
few_legs Above = omega arith
few_legs (Down trunk) = omega arith
few_legs (Split trunk old new) = omega arith

pub few_gathered : (places : Map nat_cmp ℕ) (at : Position) → length (with_slots_of places [] (legs at)) ≤ 3
few_gathered places at = let all = few_slots_of places [] (legs at) in let three = few_legs at in omega arith

-- ---- what lies in them

-- slots of the table, each once, in which these inodes lie and no others
pub record Gathers (b : Book) (slots : List ℕ) (lie : ℕ → Bool) : Type 0 where
  pub distinct : AreDistinct slots
  pub within : AllByRecursion (λ slot. slot < length b.inodes) slots
  pub lent : (inode : ℕ) → is_lent b slots inode ≡ lie inode

module _ (b : Book) where
  pub none_gathered : Gathers b [] (λ inode. false)
  none_gathered = record { distinct = tt; within = tt; lent = λ inode. refl }

  lent_more : (slots : List ℕ) (slot inode : ℕ)
      → is_lent b (slots ++ slot ∷ []) inode ≡ (is_lent b slots inode || (inode_in b slot == inode))
  lent_more [] slot inode = or_none (inode_in b slot == inode)
  lent_more (k ∷ slots) slot inode =
      ap (λ t. (inode_in b k == inode) || t) (lent_more slots slot inode)
      ∙ or_regroup (inode_in b k == inode) (is_lent b slots inode) (inode_in b slot == inode)

  pub lent_already : (slots : List ℕ) (slot : ℕ) → is_in slots slot ≡ true → is_lent b slots (inode_in b slot) ≡ true
  lent_already [] slot e = absurd (cc e)
  lent_already (k ∷ slots) slot e =
      elim (k == slot) as (λ t. (k == slot) ≡ t → (t || is_in slots slot) ≡ true
      → ((inode_in b k == inode_in b slot) || is_lent b slots (inode_in b slot)) ≡ true) [
        | true ↦ λ t f. ap (λ u. u || is_lent b slots (inode_in b slot))
            (eq-eqb (inode_in b k) (inode_in b slot) (ap (inode_in b) (eqb-true k slot t)))
        | false ↦ λ t f. or_right (inode_in b k == inode_in b slot) _ (lent_already slots slot f)
      ] refl e

  pub gathers_slot : (slots : List ℕ) (lie : ℕ → Bool) (slot : ℕ) → slot < length b.inodes → Gathers b slots lie
      → Gathers b (with_slot slots slot) (λ inode. lie inode || (inode_in b slot == inode))
  gathers_slot slots lie slot within g =
      elim (is_in slots slot) as (λ t. is_in slots slot ≡ t
      → Gathers b (cond t slots (slots ++ slot ∷ [])) (λ inode. lie inode || (inode_in b slot == inode))) [
        | true ↦ λ e. record {
          distinct = g.distinct;
          within = g.within;
          lent = λ inode. g.lent inode ∙ or_same (lie inode) (inode_in b slot == inode) (λ same. sym (g.lent inode)
              ∙ ap (is_lent b slots) (sym (eqb-true (inode_in b slot) inode same)) ∙ lent_already slots slot e);
        }
        | false ↦ λ e. record {
          distinct = distinct_more slots slot g.distinct (not_in slots slot e);
          within = all_more (λ k. k < length b.inodes) slots slot g.within within;
          lent = λ inode. lent_more slots slot inode ∙ ap (λ t. t || (inode_in b slot == inode)) (g.lent inode);
        }
      ] refl

  pub gathers_same : (slots : List ℕ) (lie lie' : ℕ → Bool) → ((inode : ℕ) → lie inode ≡ lie' inode)
      → Gathers b slots lie → Gathers b slots lie'
  gathers_same slots lie lie' same g =
      record { distinct = g.distinct; within = g.within; lent = λ inode. g.lent inode ∙ same inode }

  module _ (places : Map nat_cmp ℕ) (placed : ArePlaced b.inodes places) where
    gathers_slot_of : (slots : List ℕ) (lie : ℕ → Bool) (inode slot : ℕ) → get places inode ≡ Some slot
        → Gathers b slots lie → Gathers b (with_slot_of places slots inode) (λ i. lie i || (inode == i))
    gathers_slot_of slots lie inode slot is g =
        let there = (placed.there inode slot is).0 in
        subst (λ (o : Option ℕ). Gathers b (option_map_or (with_slot slots) o slots) (λ i. lie i || (inode == i)))
        (sym is)
        (gathers_same (with_slot slots slot) _ _
        (λ i. ap (λ k. lie i || (k == i)) (index_there b.inodes slot inode there))
        (gathers_slot slots lie slot (slice_get_within b.inodes slot inode there) g))

    abbrev stands : List Leg → ℕ → Bool
    stands ls inode = list_any (λ (leg : Leg). leg.here == inode) ls

    gathers_slots_of : (slots : List ℕ) (lie : ℕ → Bool) (ls : List Leg)
        → ((inode : ℕ) → stands ls inode ≡ true → (slot : ℕ) × (get places inode ≡ Some slot)) → Gathers b slots lie
        → Gathers b (with_slots_of places slots ls) (λ i. lie i || stands ls i)
    gathers_slots_of slots lie [] placed_in g = gathers_same slots _ _ (λ i. sym (or_none (lie i))) g
    gathers_slots_of slots lie (leg ∷ ls) placed_in g =
        let here = placed_in leg.here
        (or_left (leg.here == leg.here) (stands ls leg.here) (eq-eqb leg.here leg.here refl)) in
        gathers_same (with_slots_of places (with_slot_of places slots leg.here) ls) _ _
        (λ i. sym (or_regroup (lie i) (leg.here == i) (stands ls i)))
        (gathers_slots_of (with_slot_of places slots leg.here) (λ i. lie i || (leg.here == i)) ls
        (λ inode e. placed_in inode (or_right (leg.here == inode) (stands ls inode) e))
        (gathers_slot_of slots lie leg.here here.0 here.1 g))

    -- of the directories where these legs stand
    pub gathers_legs : (ls : List Leg)
        → ((inode : ℕ) → stands ls inode ≡ true → (slot : ℕ) × (get places inode ≡ Some slot))
        → Gathers b (with_slots_of places [] ls) (stands ls)
    gathers_legs ls placed_in = gathers_slots_of [] (λ inode. false) ls placed_in none_gathered
