-- The table of inodes, where a file's bytes change; and the slots, where an inode leaves its own.
use Rattle.std.specs.Prelude.{◌≡◌, ◌≢◌, ℕ, zero, suc, ◌+◌, ◌≤◌, true, false, cond, ◌==◌, List, [], ◌∷◌, length, Option}
use Rattle.std.specs.Prelude.{Some, None, is_some, option_map, slice_index_or, if◌then◌else◌, refl}
use Rattle.std.specs.Option.{option_map_or}
use Rattle.std.proofs.Common.{sym, subst, ap, ◌∙◌}
use Rattle.std.proofs.lemmas.Bool.{eq-eqb, eqb-true}
use Rattle.ll_rights.specs.declared.limits.TheConstants.{TREE_CLIENTS}
use Rattle.ll_rights.specs.Map.{get, has, insert, len}
use Rattle.ll_seq.specs.declared.node.Node.{Node}
use Rattle.ll_seq.specs.State.{State, kind_of}
use Rattle.ll_seq.specs.Effects.{with_bytes}
use Rattle.ll_seq.proofs.FactsKept.{kept_bytes}
use Rattle.ll_node.proofs.Survivors.{bytes_kind, bytes_next}
use Rattle.ll_node.specs.InodeTable.{Table, IsTable, without_inode}
use Rattle.ll_rights.proofs.Sizes.{same_len}
use Rattle.ll_laws.proofs.Tests.{or_false}

-- ---- other bytes

same_known : (s t : State) (q : ℕ) → kind_of t q ≡ kind_of s q → has t.nodes q ≡ has s.nodes q
same_known s t q e = sym (known (get t.nodes q)) ∙ ap is_some e ∙ known (get s.nodes q)
  where
    known : (o : Option Node) → is_some (option_map (λ (n : Node). n.kind) o) ≡ is_some o
    known None = refl
    known (Some n) = refl

bytes_room : (s : State) (inode : ℕ) (bytes : List ℕ) → (with_bytes s inode bytes).room ≡ s.room
bytes_room s inode bytes = elim (get s.nodes inode) as
    (λ o. (option_map_or (λ (n : Node). record s { nodes = insert s.nodes inode (record n { bytes = bytes }) }) o
    s).room ≡ s.room) [ None ↦ refl | Some n ↦ refl ]

pub table_bytes : (s : State) (inode : ℕ) (bytes spares : List ℕ) (t : Table) → IsTable s spares t
    → IsTable (with_bytes s inode bytes) spares t
table_bytes s inode bytes spares t is = record {
  facts = kept_bytes s t.facts inode bytes is.facts;
  next = is.next ∙ sym (bytes_next s inode bytes);
  placed = is.placed;
  living = λ q. is.living q ∙ sym (same_known s after q (bytes_kind s inode bytes q));
  slots = is.slots ∙ ap (λ r. r + TREE_CLIENTS) (sym (bytes_room s inode bytes));
  free = is.free;
  spares = is.spares;
  distinct = is.distinct;
  count = ap (λ n. length t.free + length spares + n) many ∙ is.count
      ∙ ap (λ r. r + TREE_CLIENTS) (sym (bytes_room s inode bytes));
  few = subst (λ (p : ℕ × ℕ). p.0 ≤ p.1) (λ i. (sym many i, sym (bytes_room s inode bytes) i)) is.few;
}
  where
    after : State
    after = with_bytes s inode bytes

    many : len after.nodes ≡ len s.nodes
    many = same_len after.nodes s.nodes (λ (n : Node). n.kind) (λ (n : Node). n.kind) (bytes_kind s inode bytes)

-- ---- an inode that leaves its slot

index_without : (inodes : List ℕ) (inode k : ℕ)
    → slice_index_or (without_inode inodes inode) k 0
    ≡ (if slice_index_or inodes k 0 == inode then 0 else slice_index_or inodes k 0)
index_without [] inode k = elim (0 == inode) as (λ b. zero ≡ cond b zero zero) [ true ↦ refl | false ↦ refl ]
index_without (i ∷ inodes) inode zero = refl
index_without (i ∷ inodes) inode (suc k) = index_without inodes inode k

module _ (inodes : List ℕ) (inode k : ℕ) where
  pub left_slot : slice_index_or inodes k 0 ≡ inode → slice_index_or (without_inode inodes inode) k 0 ≡ 0
  left_slot at = index_without inodes inode k ∙ ap (λ b. cond b 0 (slice_index_or inodes k 0)) (eq-eqb _ _ at)

  pub other_slot : slice_index_or inodes k 0 ≢ inode
      → slice_index_or (without_inode inodes inode) k 0 ≡ slice_index_or inodes k 0
  other_slot away = index_without inodes inode k
      ∙ ap (λ b. cond b 0 (slice_index_or inodes k 0))
      (or_false (slice_index_or inodes k 0 == inode) (λ e. away (eqb-true _ _ e)))
