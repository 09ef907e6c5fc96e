-- The accounts of slots by the inodes that lie in them.
use Rattle.std.specs.Prelude.{◌≡◌, ◌≢◌, ℕ, zero, suc, true, false, cond, ◌==◌, List, [], ◌∷◌, length, Some, slice_get}
use Rattle.std.specs.Prelude.{slice_index_or, refl}
use Rattle.std.specs.Ordering.{nat_cmp}
use Rattle.std.proofs.Common.{sym, ap, ◌∙◌}
use Rattle.std.proofs.lemmas.Bool.{eqb-true, eq-eqb}
use Rattle.ll_rights.specs.Map.{Map}
use Rattle.ll_laws.proofs.Chains.{same_Some}
use Rattle.ll_journal.specs.Book.{Book, Spares, inode_in, slot_of, held_of}
use Rattle.ll_node.specs.InodeTable.{NotIn}
use Rattle.ll_node.specs.Lent.{vacant}
use Rattle.ll_node.specs.InodeTable.{ArePlaced}
use Rattle.ll_laws.proofs.Tests.{or_false}

module _ (b : Book) (k : ℕ) where
  -- of a slot where an inode lies
  pub slot_holds : (i : ℕ) → inode_in b k ≡ i → i ≢ 0 → slot_of b k ≡ held_of b.world i
  slot_holds i at some =
      ap (λ t. cond t vacant (held_of b.world (inode_in b k)))
      (or_false (inode_in b k == 0) (λ e. some (sym at ∙ eqb-true _ _ e)))
      ∙ ap (held_of b.world) at

  pub slot_vacant : inode_in b k ≡ 0 → slot_of b k ≡ vacant
  slot_vacant none = ap (λ t. cond t vacant (held_of b.world (inode_in b k))) (eq-eqb (inode_in b k) 0 none)

  -- the account tells which one it is
  pub slot_inode : (slot_of b k).inode ≡ inode_in b k
  slot_inode =
      elim (inode_in b k == 0) as (λ t. (inode_in b k == 0) ≡ t
      → (cond t vacant (held_of b.world (inode_in b k))).inode ≡ inode_in b k) [
        | true ↦ λ e. sym (eqb-true _ _ e)
        | false ↦ λ e. refl
      ] refl

-- one whose inode stays, and so does what that inode holds
pub slot_kept : (b b' : Book) (j : ℕ) → inode_in b' j ≡ inode_in b j
    → (inode_in b j ≢ 0 → held_of b'.world (inode_in b j) ≡ held_of b.world (inode_in b j)) → slot_of b' j ≡ slot_of b j
slot_kept b b' j same held =
    ap (λ i. cond (i == 0) vacant (held_of b'.world i)) same
    ∙ elim (inode_in b j == 0) as (λ t. (inode_in b j == 0) ≡ t
    → cond t vacant (held_of b'.world (inode_in b j)) ≡ cond t vacant (held_of b.world (inode_in b j))) [
      | true ↦ λ e. refl
      | false ↦ λ e. held (λ none. cc (sym e ∙ eq-eqb _ _ none))
    ] refl

-- ---- one slot an inode

pub got_of_index : (xs : List ℕ) (k i : ℕ) → slice_index_or xs k 0 ≡ i → i ≢ 0 → slice_get xs k ≡ Some i
got_of_index [] k i at some = absurd (some (sym at))
got_of_index (x ∷ xs) zero i at some = ap Some at
got_of_index (x ∷ xs) (suc k) i at some = got_of_index xs k i at some

module _ (b : Book) (places : Map nat_cmp ℕ) (placed : ArePlaced b.inodes places) where
  pub one_slot : (j k : ℕ) → inode_in b j ≡ inode_in b k → inode_in b j ≢ 0 → j ≡ k
  one_slot j k same some =
      let here = placed.lies j (inode_in b j) (got_of_index b.inodes j (inode_in b j) refl some) some in
      let there = placed.lies k (inode_in b j) (got_of_index b.inodes k (inode_in b j) (sym same) some) some in
      same_Some j k (sym here ∙ there)

  -- so what lies in another slot is another inode
  pub other_inode : (j k : ℕ) → j ≢ k → inode_in b j ≢ 0 → inode_in b j ≢ inode_in b k
  other_inode j k two some same = two (one_slot j k same some)

  -- the inodes that lie in these slots
  abbrev pub inodes_of : List ℕ → List ℕ
  inodes_of [] = []
  inodes_of (k ∷ ks) = inode_in b k ∷ inodes_of ks

  pub not_lent : (j : ℕ) (ks : List ℕ) → inode_in b j ≢ 0 → NotIn j ks → NotIn (inode_in b j) (inodes_of ks)
  not_lent j [] some away = tt
  not_lent j (k ∷ ks) some away = (other_inode j k away.0 some, not_lent j ks some away.1)

  -- A step spares the slots that it isn't lent, if their inodes stay, and what these hold
  pub spares_others : (b' : Book) (ks : List ℕ) → b'.world.limit ≡ b.world.limit → length b'.inodes ≡ length b.inodes
      → ((j : ℕ) → NotIn j ks → inode_in b' j ≡ inode_in b j)
      → ((j : ℕ) → NotIn j ks → inode_in b j ≢ 0 → NotIn (inode_in b j) (inodes_of ks)
      → held_of b'.world (inode_in b j) ≡ held_of b.world (inode_in b j)) → Spares b b' ks
  spares_others b' ks limit size stay held = record {
    limit = limit;
    size = size;
    slots = λ j away. slot_kept b b' j (stay j away) (λ some. held j away some (not_lent j ks some away));
  }
