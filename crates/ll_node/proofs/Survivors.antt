-- Which nodes live after a change, and what number the next one gets.
use Rattle.std.specs.Prelude.{◌≡◌, ◌≢◌, ℕ, ◌+◌, true, false, cond, List, [], Option, Some, None}
use Rattle.std.specs.Prelude.{option_map, refl}
use Rattle.std.specs.Option.{option_map_or}
use Rattle.std.specs.Ordering.{nat_cmp, eq_by_cmp}
use Rattle.std.specs.Cmp.{nat_cmp_total, unsigned_tied}
use Rattle.std.specs.FinMap.{nat_cmp-IsAntisymmetric}
use Rattle.std.proofs.Common.{sym, ap, ◌∙◌, inl, inr}
use Rattle.std.proofs.lemmas.Bool.{eq-eqb}
use Rattle.ll_rights.specs.declared.kind.Kind.{Kind}
use Rattle.ll_rights.specs.Map.{get, insert, remove}
use Rattle.ll_rights.proofs.Maps.{get-insert_same, get-insert_other, get-remove, get-remove_other, insert_cases}
use Rattle.ll_seq.specs.declared.client.ClientRecord.{ClientRecord}
use Rattle.ll_seq.specs.declared.dentries.Dentry.{Dentry}
use Rattle.ll_seq.specs.declared.node.Node.{Node}
use Rattle.ll_seq.specs.State.{State, kind_of, empty_node}
use Rattle.ll_seq.specs.Effects.{lives, let_go, with_node, with_moved, with_bytes, with_client}
use Rattle.ll_seq.specs.declared.changes.Change.{Change}
use Rattle.ll_seq.specs.declared.changes.Change.TheVariants.{Nothing, Make, Take, Name as Link, Move, Replace}
use Rattle.ll_seq.specs.declared.changes.Change.TheVariants.{Exchange, Resize, Open, Allow}
use Rattle.ll_seq.specs.declared.changes.Opening.{Opening}
use Rattle.ll_seq.specs.Effect.{dentry_at, with_descriptor, with_opening, after}

-- ---- kinds

kind_from : (s t : State) (i : ℕ) → get t.nodes i ≡ get s.nodes i → kind_of t i ≡ kind_of s i
kind_from s t i e = ap (option_map (λ (n : Node). n.kind)) e

module _ (s : State) (inode : ℕ) where
  -- bytes change no kind
  pub bytes_kind : (bytes : List ℕ) (i : ℕ) → kind_of (with_bytes s inode bytes) i ≡ kind_of s i
  bytes_kind bytes i =
      elim (get s.nodes inode) as (λ o. get s.nodes inode ≡ o
      → kind_of (option_map_or (λ (n : Node). record s
      { nodes = insert s.nodes inode (record n { bytes = bytes }) }) o s) i ≡ kind_of s i) [
        | None ↦ λ e. refl
        | Some n ↦ λ e. elim (insert_cases nat_cmp_total nat_cmp-IsAntisymmetric s.nodes inode
            (record n { bytes = bytes }) i) [
              | inl a ↦ ap (option_map (λ (m : Node). m.kind)) a.1
                  ∙ sym (ap (option_map (λ (m : Node). m.kind)) (ap (get s.nodes) a.0 ∙ e))
              | inr a ↦ ap (option_map (λ (m : Node). m.kind)) a.1
            ]
      ] refl

  pub bytes_next : (bytes : List ℕ) → (with_bytes s inode bytes).next ≡ s.next
  bytes_next bytes = elim (get s.nodes inode) as
      (λ o. (option_map_or (λ (n : Node). record s { nodes = insert s.nodes inode (record n { bytes = bytes }) }) o
      s).next ≡ s.next) [ None ↦ refl | Some n ↦ refl ]

  pub let_go_kind : (i : ℕ) → i ≢ inode → kind_of (let_go s inode) i ≡ kind_of s i
  let_go_kind i other =
      elim (lives s inode) as (λ b. kind_of (cond b s (record s { nodes = remove s.nodes inode })) i ≡ kind_of s i) [
        | true ↦ refl
        | false ↦ kind_from s (record s { nodes = remove s.nodes inode }) i
            (get-remove_other nat_cmp_total nat_cmp-IsAntisymmetric s.nodes inode i other)
      ]

  pub let_go_next : (let_go s inode).next ≡ s.next
  let_go_next = elim (lives s inode) as (λ b. (cond b s (record s { nodes = remove s.nodes inode })).next ≡ s.next)
      [ true ↦ refl | false ↦ refl ]

  -- what doesn't live goes
  pub let_go_gone : lives s inode ≡ false → kind_of (let_go s inode) inode ≡ None
  let_go_gone e =
      ap (λ b. kind_of (cond b s (record s { nodes = remove s.nodes inode })) inode) e
      ∙ ap (option_map (λ (n : Node). n.kind)) (get-remove nat_cmp_total nat_cmp-IsAntisymmetric s.nodes inode inode
      ∙ ap (λ b. cond b None (get s.nodes inode)) itself)
    where
      itself : eq_by_cmp nat_cmp inode inode ≡ true
      itself = unsigned_tied inode inode ∙ eq-eqb inode inode refl

-- ---- after a change

module _ (s : State) (kind : Kind) (i : ℕ) where
  pub make_kind_other : (at : Dentry) → i ≢ s.next → kind_of (with_node s kind at) i ≡ kind_of s i
  make_kind_other at other = kind_from s (with_node s kind at) i
      (get-insert_other nat_cmp_total nat_cmp-IsAntisymmetric s.nodes s.next (empty_node kind) i other)

pub make_kind : (s : State) (kind : Kind) (at : Dentry) → kind_of (with_node s kind at) s.next ≡ Some kind
make_kind s kind at = ap (option_map (λ (n : Node). n.kind))
    (get-insert_same nat_cmp_total nat_cmp-IsAntisymmetric s.nodes s.next (empty_node kind))

abbrev pub next_opened : State → Option ℕ → ℕ
next_opened s None = s.next + 1
next_opened s (Some inode) = s.next

abbrev pub next_after : State → Change → ℕ
next_after s Nothing = s.next
next_after s (Make at kind) = s.next + 1
next_after s (Take at inode) = s.next
next_after s (Link at inode) = s.next
next_after s (Move old new inode) = s.next
next_after s (Replace old new inode replaced) = s.next
next_after s (Exchange old new first second) = s.next
next_after s (Resize inode size) = s.next
next_after s (Open opening) = next_opened s opening.there
next_after s (Allow rule) = s.next

open_next : (s : State) (n : ℕ) (c : ClientRecord) (o : Opening) (there : Option ℕ)
    → (with_opening s n c o there).next ≡ next_opened s there
open_next s n c o None = refl
open_next s n c o (Some inode) =
    elim o.is_emptied as (λ b. (with_client (cond b (with_bytes s inode []) s) n (with_descriptor c o inode)).next
    ≡ s.next) [ true ↦ bytes_next s inode [] | false ↦ refl ]

-- only a new node takes a number
pub after_next : (s : State) (n : ℕ) (c : ClientRecord) (change : Change)
    → (after s n c change).next ≡ next_after s change
after_next s n c Nothing = refl
after_next s n c (Make at kind) = refl
after_next s n c (Take at inode) = let_go_next (record s { entries = remove s.entries (dentry_at at) }) inode
after_next s n c (Link at inode) = refl
after_next s n c (Move old new inode) = refl
after_next s n c (Replace old new inode replaced) =
    let_go_next (with_moved s (dentry_at old) (dentry_at new) inode) replaced
after_next s n c (Exchange old new first second) = refl
after_next s n c (Resize inode size) = bytes_next s inode _
after_next s n c (Open opening) = open_next s n c opening opening.there
after_next s n c (Allow rule) = refl
