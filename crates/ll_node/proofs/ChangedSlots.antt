-- What each change that a call makes does to what lies in the slots of the inodes that it names, and that all others
-- stay.
use Rattle.std.specs.Prelude.{◌≡◌, ◌≢◌, ℕ, true, false, cond, ◌&&◌, List, [], ◌∷◌, Option, Some, None, unwrap_or, refl}
use Rattle.std.proofs.Common.{sym, ap, ◌∙◌, arith}
use Rattle.ll_rights.specs.declared.kind.Kind.{Kind}
use Rattle.ll_rights.specs.declared.kind.Kind.TheVariants.{Reg, Dir}
use Rattle.ll_rights.specs.Kind.{is_dir}
use Rattle.ll_rights.specs.Map.{insert, remove}
use Rattle.ll_node.specs.Slot.{new_slot}
use Rattle.ll_seq.specs.declared.client.ClientRecord.{ClientRecord}
use Rattle.ll_seq.specs.State.{State, child, root, kind_of}
use Rattle.ll_seq.specs.Stages.{has_names}
use Rattle.ll_seq.specs.Effects.{lives, let_go, with_node, without_name, with_moved, with_bytes, with_client}
use Rattle.ll_laws.proofs.Chains.{same_Some}
use Rattle.ll_laws.proofs.Trees.{IsTree}
use Rattle.ll_seq.specs.declared.changes.At.{At}
use Rattle.ll_seq.specs.declared.changes.Change.{Change}
use Rattle.ll_seq.specs.declared.changes.Change.TheVariants.{Nothing, Make, Take, Name as Link, Move, Replace}
use Rattle.ll_seq.specs.declared.changes.Change.TheVariants.{Exchange, Resize, Open, Allow}
use Rattle.ll_seq.specs.declared.changes.Opening.{Opening}
use Rattle.ll_seq.specs.Effect.{dentry_at, with_descriptor, with_opening, after, Holds, IsEmpty, HasRoom, FitsTake}
use Rattle.ll_seq.specs.Effect.{FitsReplace}
use Rattle.ll_laws.proofs.Undisturbed.{not_empty}
use Rattle.ll_node.specs.Accounts.{names_map}
use Rattle.ll_node.specs.InodeTable.{NotIn}
use Rattle.ll_node.proofs.SlotAccounts.{content_of, unused_empty, make_new, make_named, make_other, bytes_other}
use Rattle.ll_node.proofs.SlotAccounts.{let_go_other, let_go_living, unlink_named, unlink_living, unlink_other}
use Rattle.ll_node.proofs.SlotAccounts.{move_after, move_from, move_into, move_other, exchange_other, link_other}

-- ---- the inodes that a change names are apart

module _ (s : State) (tree : IsTree s) where
  is_directory : (at : At) → (kind_of s root ≡ Some Dir → kind_of s at.directory ≡ Some Dir)
      → kind_of s at.directory ≡ Some Dir
  is_directory at dir = dir tree.root_node

  -- a directory that has a name isn't empty
  pub empty_apart : (at : At) (x r : ℕ) → Holds s at x → IsEmpty s r → r ≢ at.directory
  empty_apart at x r h empty same =
      let dir : is_dir (unwrap_or (kind_of s r) Reg) ≡ true =
      ap (λ i. is_dir (unwrap_or (kind_of s i) Reg)) same
      ∙ ap (λ o. is_dir (unwrap_or o Reg)) (is_directory at h.directory) in
      let full : has_names s r ≡ true = ap (has_names s) same ∙ not_empty s at.directory at.name.now x h.child in
      cc (sym empty ∙ (λ i. dir i && full i))

  -- nor is it the next inode
  pub directory_apart : (at : At) → (kind_of s root ≡ Some Dir → kind_of s at.directory ≡ Some Dir)
      → at.directory ≢ s.next
  directory_apart at dir same = let old = tree.nodes at.directory Dir (is_directory at dir) in absurd (omega arith)

  -- ---- a new node

  module _ (at : At) (kind : Kind) (fits : HasRoom s at) where
    pub made_in : content_of (with_node s kind (dentry_at at)) at.directory
        ≡ record (content_of s at.directory) { names = insert (names_map s at.directory) at.name.now s.next }
    made_in = make_named s kind (dentry_at at) (directory_apart at fits.lacks.directory)

    pub made_new : content_of (with_node s kind (dentry_at at)) s.next ≡ new_slot kind
    made_new = make_new s kind (dentry_at at) (unused_empty s tree s.next (omega arith))
        (λ e. directory_apart at fits.lacks.directory (sym e))

  -- ---- a name that goes

  module _ (at : At) (inode : ℕ) (fits : FitsTake s at inode) where
    pub taken_apart : inode ≢ at.directory
    taken_apart = empty_apart at inode inode fits.holds fits.empty

    pub taken_from : content_of (without_name s (dentry_at at) inode) at.directory
        ≡ record (content_of s at.directory) { names = remove (names_map s at.directory) at.name.now }
    taken_from = unlink_named s (dentry_at at) inode (λ e. taken_apart (sym e))

    pub taken_living : lives (record s { entries = remove s.entries (dentry_at at) }) inode ≡ true
        → content_of (without_name s (dentry_at at) inode) inode ≡ content_of s inode
    taken_living e = unlink_living s (dentry_at at) inode taken_apart e

  -- ---- a name that takes another node's place

  module _ (old new : At) (inode replaced : ℕ) (fits : FitsReplace s old new inode replaced) where
    abbrev over : State
    over = let_go (with_moved s (dentry_at old) (dentry_at new) inode) replaced

    pub replaced_apart_old : replaced ≢ old.directory
    replaced_apart_old = empty_apart old inode replaced fits.old fits.empty

    pub replaced_apart_new : replaced ≢ new.directory
    replaced_apart_new = empty_apart new replaced replaced fits.new fits.empty

    -- within a directory the names are two
    pub replaced_names : old.directory ≡ new.directory → new.name.now ≢ old.name.now
    replaced_names same names =
        fits.differ (same_Some inode replaced (sym fits.old.child ∙ (λ i. child s (same i) (sym names i))
        ∙ fits.new.child))

    -- or the other way round
    pub replaced_after : old.directory ≡ new.directory
        → content_of over new.directory
        ≡ record (content_of s new.directory)
        { names = remove (insert (names_map s new.directory) new.name.now inode) old.name.now }
    replaced_after same =
        let_go_other (with_moved s (dentry_at old) (dentry_at new) inode) replaced new.directory
        (λ e. replaced_apart_new (sym e))
        ∙ move_after s (dentry_at old) (dentry_at new) inode same (replaced_names same)

    pub replaced_from : old.directory ≢ new.directory
        → content_of over old.directory
        ≡ record (content_of s old.directory) { names = remove (names_map s old.directory) old.name.now }
    replaced_from two =
        let_go_other (with_moved s (dentry_at old) (dentry_at new) inode) replaced old.directory
        (λ e. replaced_apart_old (sym e))
        ∙ move_from s (dentry_at old) (dentry_at new) inode two

    pub replaced_into : new.directory ≢ old.directory
        → content_of over new.directory
        ≡ record (content_of s new.directory) { names = insert (names_map s new.directory) new.name.now inode }
    replaced_into two =
        let_go_other (with_moved s (dentry_at old) (dentry_at new) inode) replaced new.directory
        (λ e. replaced_apart_new (sym e))
        ∙ move_into s (dentry_at old) (dentry_at new) inode two

    -- the node that was replaced, if it lives on
    pub replaced_living : lives (with_moved s (dentry_at old) (dentry_at new) inode) replaced ≡ true
        → content_of over replaced ≡ content_of s replaced
    replaced_living e =
        ap (λ t. content_of t replaced) (let_go_living (with_moved s (dentry_at old) (dentry_at new) inode) replaced e)
        ∙ move_other s (dentry_at old) (dentry_at new) inode replaced replaced_apart_old replaced_apart_new

-- ---- all changes

abbrev pub touched_by_opening : State → Opening → Option ℕ → List ℕ
touched_by_opening s o None = o.at.directory ∷ s.next ∷ []
touched_by_opening s o (Some inode) = inode ∷ []

-- the inodes whose content a change may change
abbrev pub touched : State → Change → List ℕ
touched s Nothing = []
touched s (Make at kind) = at.directory ∷ s.next ∷ []
touched s (Take at inode) = at.directory ∷ inode ∷ []
touched s (Link at inode) = at.directory ∷ []
touched s (Move old new inode) = old.directory ∷ new.directory ∷ []
touched s (Replace old new inode replaced) = old.directory ∷ new.directory ∷ replaced ∷ []
touched s (Exchange old new first second) = old.directory ∷ new.directory ∷ []
touched s (Resize inode size) = inode ∷ []
touched s (Open opening) = touched_by_opening s opening opening.there
touched s (Allow rule) = []

opened_elsewhere : (s : State) (n : ℕ) (c : ClientRecord) (o : Opening) (there : Option ℕ) (i : ℕ)
    → NotIn i (touched_by_opening s o there) → content_of (with_opening s n c o there) i ≡ content_of s i
opened_elsewhere s n c o None i away = make_other s Reg (dentry_at o.at) i away.0 away.1.0
opened_elsewhere s n c o (Some inode) i away =
    elim o.is_emptied as (λ b. content_of (with_client (cond b (with_bytes s inode []) s) n (with_descriptor c o inode))
    i ≡ content_of s i) [
      | true ↦ bytes_other s inode [] i away.0
      | false ↦ refl
    ]

-- any other's stays
pub after_elsewhere : (s : State) (n : ℕ) (c : ClientRecord) (change : Change) (i : ℕ) → NotIn i (touched s change)
    → content_of (after s n c change) i ≡ content_of s i
after_elsewhere s n c Nothing i away = refl
after_elsewhere s n c (Make at kind) i away = make_other s kind (dentry_at at) i away.0 away.1.0
after_elsewhere s n c (Take at inode) i away = unlink_other s (dentry_at at) inode i away.0 away.1.0
after_elsewhere s n c (Link at inode) i away = link_other s (dentry_at at) inode i away.0
after_elsewhere s n c (Move old new inode) i away = move_other s (dentry_at old) (dentry_at new) inode i away.0 away.1.0
after_elsewhere s n c (Replace old new inode replaced) i away =
    let_go_other (with_moved s (dentry_at old) (dentry_at new) inode) replaced i away.1.1.0
    ∙ move_other s (dentry_at old) (dentry_at new) inode i away.0 away.1.0
after_elsewhere s n c (Exchange old new first second) i away =
    exchange_other s (dentry_at old) (dentry_at new) first second i away.0 away.1.0
after_elsewhere s n c (Resize inode size) i away = bytes_other s inode _ i away.0
after_elsewhere s n c (Open opening) i away = opened_elsewhere s n c opening opening.there i away
after_elsewhere s n c (Allow rule) i away = refl
