-- What each call that isn't refused changes of what lies in the nodes' slots.
use Rattle.std.specs.Prelude.{◌≡◌, ◌≢◌, ℕ, ◌≤◌, true, false, cond, ◌==◌, List, [], Option, Some, None, unwrap_or}
use Rattle.std.specs.Prelude.{option_map, refl}
use Rattle.std.specs.Option.{option_map_or}
use Rattle.std.specs.Cmp.{nat_cmp_total}
use Rattle.std.specs.FinMap.{nat_cmp-IsAntisymmetric}
use Rattle.std.proofs.Common.{sym, ap, ◌∙◌, arith}
use Rattle.ll_rights.specs.declared.kind.Kind.{Kind}
use Rattle.ll_rights.specs.declared.kind.Kind.TheVariants.{Reg}
use Rattle.ll_rights.specs.Map.{empty, get, insert, remove}
use Rattle.ll_rights.proofs.Maps.{get-insert_same, get-insert_other, get-remove_other}
use Rattle.ll_node.specs.Slot.{NameMap, Slot, new_slot}
use Rattle.ll_seq.specs.declared.dentries.Dentry.{Dentry}
use Rattle.ll_seq.specs.declared.node.Node.{Node}
use Rattle.ll_seq.specs.State.{Name, State, child, kind_of, bytes_of, empty_node}
use Rattle.ll_seq.specs.Tree.{kind_or_file}
use Rattle.ll_seq.specs.Effects.{lives, let_go, with_name, with_node, without_name, with_moved, renamed, with_bytes}
use Rattle.ll_seq.specs.Effects.{with_size, resized}
use Rattle.ll_laws.proofs.Trees.{IsTree}
use Rattle.ll_node.specs.Accounts.{names_map}
use Rattle.ll_node.proofs.NameMaps.{names_map-empty, names_put, names_put_other, names_taken, names_taken_other}
use Rattle.ll_node.proofs.NameMaps.{names_moved_after, names_moved_from, names_moved_into, names_moved_other}
use Rattle.ll_node.proofs.NameMaps.{names_exchanged_other}

-- what lies in a node's slot, but for the mark
abbrev pub content_of : State → ℕ → Slot
content_of s inode = record {
  kind = kind_or_file s inode;
  names = names_map s inode;
  bytes = bytes_of s inode;
  mark = None;
}

-- ---- from entries and nodes

module _ (s t : State) (i : ℕ) where
  pub with_names : (names : NameMap) → get t.nodes i ≡ get s.nodes i → names_map t i ≡ names
      → content_of t i ≡ record (content_of s i) { names = names }
  with_names names node is = λ j. record {
    kind = unwrap_or (option_map (λ (n : Node). n.kind) (node j)) Reg;
    names = is j;
    bytes = option_map_or (λ (n : Node). n.bytes) (node j) [];
    mark = None;
  }

  pub same_content : get t.nodes i ≡ get s.nodes i → names_map t i ≡ names_map s i → content_of t i ≡ content_of s i
  same_content node is = with_names (names_map s i) node is

-- no name is in a directory that is yet to come
pub unused_empty : (s : State) → IsTree s → (i : ℕ) → s.next ≤ i → names_map s i ≡ empty
unused_empty s tree i past = names_map-empty s i (λ name. by name (child s i name) refl)
  where
    by : (name : Name) (o : Option ℕ) → child s i name ≡ o → o ≡ None
    by name None e = refl
    by name (Some x) e = let old = tree.old i name x e in let lt = old.0 in absurd (omega arith)

-- ---- a new node

module _ (s : State) (kind : Kind) (at : Dentry) where
  pub make_new : names_map s s.next ≡ empty → s.next ≢ at.directory
      → content_of (with_node s kind at) s.next ≡ new_slot kind
  make_new none other =
      let names = names_put_other s (with_node s kind at) at s.next refl s.next other ∙ none in
      let node = get-insert_same nat_cmp_total nat_cmp-IsAntisymmetric s.nodes s.next (empty_node kind) in
      λ j. record {
        kind = unwrap_or (option_map (λ (n : Node). n.kind) (node j)) Reg;
        names = names j;
        bytes = option_map_or (λ (n : Node). n.bytes) (node j) [];
        mark = None;
      }

  node_kept : (i : ℕ) → i ≢ s.next → get (with_node s kind at).nodes i ≡ get s.nodes i
  node_kept i other = get-insert_other nat_cmp_total nat_cmp-IsAntisymmetric s.nodes s.next (empty_node kind) i other

  pub make_named : at.directory ≢ s.next
      → content_of (with_node s kind at) at.directory
      ≡ record (content_of s at.directory) { names = insert (names_map s at.directory) at.name s.next }
  make_named other = with_names s (with_node s kind at) at.directory _ (node_kept at.directory other)
      (names_put s (with_node s kind at) at s.next refl)

  pub make_other : (i : ℕ) → i ≢ at.directory → i ≢ s.next → content_of (with_node s kind at) i ≡ content_of s i
  make_other i away other = same_content s (with_node s kind at) i (node_kept i other)
      (names_put_other s (with_node s kind at) at s.next refl i away)

-- ---- other bytes

module _ (s : State) (inode : ℕ) (bytes : List ℕ) where
  pub bytes_put : (kind : Kind) → kind_of s inode ≡ Some kind
      → content_of (with_bytes s inode bytes) inode ≡ record (content_of s inode) { bytes = bytes }
  bytes_put kind there =
      elim (get s.nodes inode) as (λ o. get s.nodes inode ≡ o → option_map (λ (n : Node). n.kind) o ≡ Some kind
      → content_of (after o) inode ≡ record (content_of s inode) { bytes = bytes }) [
        | None ↦ λ e f. absurd (cc f)
        | Some n ↦ λ e f. put n e
      ] refl there
    where
      after : Option Node → State
      after o = option_map_or (λ (n : Node). record s { nodes = insert s.nodes inode (record n { bytes = bytes }) }) o s

      put : (n : Node) → get s.nodes inode ≡ Some n
          → content_of (after (Some n)) inode ≡ record (content_of s inode) { bytes = bytes }
      put n e =
          let new = get-insert_same nat_cmp_total nat_cmp-IsAntisymmetric s.nodes inode (record n { bytes = bytes }) in
          let kinds = ap (λ o. unwrap_or (option_map (λ (m : Node). m.kind) o) Reg) new
          ∙ sym (ap (λ o. unwrap_or (option_map (λ (m : Node). m.kind) o) Reg) e) in
          let contents = ap (λ o. option_map_or (λ (m : Node). m.bytes) o []) new in
          λ j. record { kind = kinds j; names = names_map s inode; bytes = contents j; mark = None }

  pub bytes_other : (i : ℕ) → i ≢ inode → content_of (with_bytes s inode bytes) i ≡ content_of s i
  bytes_other i other =
      elim (get s.nodes inode) as (λ o. content_of
      (option_map_or (λ (n : Node). record s { nodes = insert s.nodes inode (record n { bytes = bytes }) }) o s) i
      ≡ content_of s i) [
        | None ↦ refl
        | Some n ↦ same_content s (record s { nodes = insert s.nodes inode (record n { bytes = bytes }) }) i
            (get-insert_other nat_cmp_total nat_cmp-IsAntisymmetric s.nodes inode (record n { bytes = bytes }) i other)
            refl
      ]

module _ (s : State) (inode : ℕ) where
  pub size_put : (size : ℕ) (kind : Kind) → kind_of s inode ≡ Some kind
      → content_of (with_size s inode size) inode
      ≡ record (content_of s inode) { bytes = resized (bytes_of s inode) size }
  size_put size kind there = bytes_put s inode (resized (bytes_of s inode) size) kind there

-- ---- a node that may go

module _ (s : State) (inode : ℕ) where
  pub let_go_other : (i : ℕ) → i ≢ inode → content_of (let_go s inode) i ≡ content_of s i
  let_go_other i other =
      elim (lives s inode) as (λ b. content_of (cond b s (record s { nodes = remove s.nodes inode })) i
      ≡ content_of s i) [
        | true ↦ refl
        | false ↦ same_content s (record s { nodes = remove s.nodes inode }) i
            (get-remove_other nat_cmp_total nat_cmp-IsAntisymmetric s.nodes inode i other) refl
      ]

  -- it lives on
  pub let_go_living : lives s inode ≡ true → let_go s inode ≡ s
  let_go_living e = ap (λ b. cond b s (record s { nodes = remove s.nodes inode })) e

-- ---- a name that goes

module _ (s : State) (at : Dentry) (inode : ℕ) where
  abbrev unnamed : State
  unnamed = record s { entries = remove s.entries at }

  pub unlink_named : at.directory ≢ inode
      → content_of (without_name s at inode) at.directory
      ≡ record (content_of s at.directory) { names = remove (names_map s at.directory) at.name }
  unlink_named other = let_go_other unnamed inode at.directory other
      ∙ with_names s unnamed at.directory _ refl (names_taken s unnamed at refl)

  -- what it named lives on
  pub unlink_living : inode ≢ at.directory → lives unnamed inode ≡ true
      → content_of (without_name s at inode) inode ≡ content_of s inode
  unlink_living other e =
      ap (λ u. content_of u inode) (let_go_living unnamed inode e)
      ∙ same_content s unnamed inode refl (names_taken_other s unnamed at refl inode other)

  pub unlink_other : (i : ℕ) → i ≢ at.directory → i ≢ inode → content_of (without_name s at inode) i ≡ content_of s i
  unlink_other i away other = let_go_other unnamed inode i other
      ∙ same_content s unnamed i refl (names_taken_other s unnamed at refl i away)

-- ---- a name that moves

module _ (s : State) (old new : Dentry) (inode : ℕ) where
  abbrev moved : State
  moved = with_moved s old new inode

  -- the new name put in first
  pub move_after : old.directory ≡ new.directory → new.name ≢ old.name
      → content_of moved new.directory
      ≡ record (content_of s new.directory)
      { names = remove (insert (names_map s new.directory) new.name inode) old.name }
  move_after same two = with_names s moved new.directory _ refl (names_moved_after s moved old new inode refl same two)

  -- between two
  pub move_from : old.directory ≢ new.directory
      → content_of moved old.directory
      ≡ record (content_of s old.directory) { names = remove (names_map s old.directory) old.name }
  move_from two = with_names s moved old.directory _ refl (names_moved_from s moved old new inode refl two)

  pub move_into : new.directory ≢ old.directory
      → content_of moved new.directory
      ≡ record (content_of s new.directory) { names = insert (names_map s new.directory) new.name inode }
  move_into two = with_names s moved new.directory _ refl (names_moved_into s moved old new inode refl two)

  pub move_other : (i : ℕ) → i ≢ old.directory → i ≢ new.directory → content_of moved i ≡ content_of s i
  move_other i a b = same_content s moved i refl (names_moved_other s moved old new inode refl i a b)

  -- onto another one, it may let that go
  pub rename_over : (replaced : ℕ) → (inode == replaced) ≡ false
      → renamed s old new inode (Some replaced) ≡ let_go moved replaced
  rename_over replaced e = ap (λ b. cond b s (let_go moved replaced)) e

-- ---- two names that change places

module _ (s : State) (old new : Dentry) (first second : ℕ) where
  abbrev swapped : State
  swapped = with_name (with_name s new first) old second

  pub exchange_other : (i : ℕ) → i ≢ old.directory → i ≢ new.directory → content_of swapped i ≡ content_of s i
  exchange_other i a b = same_content s swapped i refl (names_exchanged_other s swapped old new first second refl i a b)

-- ---- one name more

module _ (s : State) (at : Dentry) (inode : ℕ) where
  pub link_named : content_of (with_name s at inode) at.directory
      ≡ record (content_of s at.directory) { names = insert (names_map s at.directory) at.name inode }
  link_named = with_names s (with_name s at inode) at.directory _ refl
      (names_put s (with_name s at inode) at inode refl)

  pub link_other : (i : ℕ) → i ≢ at.directory → content_of (with_name s at inode) i ≡ content_of s i
  link_other i away = same_content s (with_name s at inode) i refl
      (names_put_other s (with_name s at inode) at inode refl i away)
