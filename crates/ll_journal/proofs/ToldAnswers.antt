-- What is told of a node that is lent.
use Rattle.std.specs.Prelude.{◌≡◌, ◌≢◌, ℕ, Bool, true, false, ◌||◌, ◌==◌, List, [], ◌∷◌, Option, is_some}
use Rattle.std.specs.Prelude.{slice_index_or, refl}
use Rattle.std.specs.List.{AllByRecursion, list_any}
use Rattle.std.proofs.Common.{sym, subst, ap, ◌∙◌}
use Rattle.std.proofs.lemmas.Bool.{eqb-true}
use Rattle.ll_rights.specs.Map.{has}
use Rattle.ll_seq.specs.State.{State}
use Rattle.ll_node.specs.declared.held.Held.{Held}
use Rattle.ll_node.specs.Lent.{Misses}
use Rattle.ll_node.specs.InodeTable.{IsTable, Table}
use Rattle.ll_node.specs.Accounts.{account, accounts}
use Rattle.ll_node.proofs.Accounted.{account_held, account_inode, all_lent}
use Rattle.ll_journal.specs.Performed.{HasContent, Lends}
use Rattle.ll_journal.proofs.LentSlots.{got_of_index}

-- a slot of this inode is among these
abbrev has_slot : List ℕ → List ℕ → ℕ → Bool
has_slot inodes slots i = list_any (λ k. slice_index_or inodes k 0 == i) slots

slot_among : (inodes slots : List ℕ) (i : ℕ) → has_slot inodes slots i ≡ true → (k : ℕ)
    × (slice_index_or inodes k 0 ≡ i)
slot_among inodes [] i any = absurd (cc any)
slot_among inodes (k ∷ slots) i any =
    elim (slice_index_or inodes k 0 == i) as (λ b. (slice_index_or inodes k 0 == i) ≡ b
    → (b || has_slot inodes slots i) ≡ true → (l : ℕ) × (slice_index_or inodes l 0 ≡ i)) [
      | true ↦ λ e f. (k, eqb-true (slice_index_or inodes k 0) i e)
      | false ↦ λ e f. slot_among inodes slots i f
    ] refl any

module _ (s : State) (spares : List ℕ) (t : Table) (table : IsTable s spares t) (i : ℕ) (some : i ≢ 0) where
  -- what lies in a slot is a node
  pub node_lent : (slots : List ℕ) → has_slot t.inodes slots i ≡ true → has s.nodes i ≡ true
  node_lent slots any =
      let k = slot_among t.inodes slots i any in
      sym (table.living i) ∙ ap is_some (table.placed.lies k.0 i (got_of_index t.inodes k.0 i k.1 some) some)

  content_at : (marks : ℕ → Option ℕ) (k : ℕ) → (account s marks t.inodes k).inode ≡ i
      → HasContent s i (account s marks t.inodes k)
  content_at marks k at =
      let is = account_held s marks t.inodes k i (sym (account_inode s marks t.inodes k) ∙ at) some in
      (ap (λ (h : Held). h.node.names) is, ap (λ (h : Held). h.node.bytes) is)

  not_missed : (marks : ℕ → Option ℕ) (slots : List ℕ) → has_slot t.inodes slots i ≡ true
      → Misses i (accounts s marks t.inodes slots) → ⊥
  not_missed marks [] any none = cc any
  not_missed marks (k ∷ slots) any none =
      elim (slice_index_or t.inodes k 0 == i) as (λ b. (slice_index_or t.inodes k 0 == i) ≡ b
      → (b || has_slot t.inodes slots i) ≡ true → ⊥) [
        | true ↦ λ e f. none.0 (account_inode s marks t.inodes k ∙ eqb-true (slice_index_or t.inodes k 0) i e)
        | false ↦ λ e f. not_missed marks slots f none.1
      ] refl any

  pub lends : (marks : ℕ → Option ℕ) (slots : List ℕ) (lent : List Held) → lent ≡ accounts s marks t.inodes slots
      → has_slot t.inodes slots i ≡ true → Lends s lent i
  lends marks slots lent is any =
      subst (λ hs. Lends s hs i) (sym is) (record {
        there = not_missed marks slots any;
        content = all_lent (λ (held : Held). held.inode ≡ i → HasContent s i held) s marks t.inodes (content_at marks)
            slots;
      })

-- so is what an answer tells of
pub lent_told : (s : State) (spares : List ℕ) (t : Table) → IsTable s spares t
    → (marks : ℕ → Option ℕ) (slots : List ℕ) (lent : List Held) → lent ≡ accounts s marks t.inodes slots
    → (told : List ℕ) (i : ℕ) → told ≡ i ∷ [] → AllByRecursion (λ j. has_slot t.inodes slots j ≡ true) told
    → AllByRecursion (λ j. j ≢ 0) told → Lends s lent i × (has s.nodes i ≡ true)
lent_told s spares t table marks slots lent is told i one any some =
    let here : has_slot t.inodes slots i ≡ true =
    (subst (AllByRecursion (λ j. has_slot t.inodes slots j ≡ true)) one any).0 in
    let above : i ≢ 0 = (subst (AllByRecursion (λ j. j ≢ 0)) one some).0 in
    (lends s spares t table i above marks slots lent is here, node_lent s spares t table i above slots here)
