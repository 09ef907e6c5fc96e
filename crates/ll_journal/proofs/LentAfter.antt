-- What lies in a slot that is lent, and after a walk's move; which other slots' accounts stay.
use Rattle.std.specs.Prelude.{◌≡◌, ◌≢◌, ℕ, zero, suc, true, false, cond, not, ◌==◌, List, [], ◌∷◌, length, Option, Some}
use Rattle.std.specs.Prelude.{None, is_none, is_some, slice_get, slice_index_or, refl}
use Rattle.std.specs.Ordering.{nat_cmp}
use Rattle.std.proofs.Common.{sym, subst, ap, ◌∙◌}
use Rattle.std.proofs.lemmas.Bool.{eqb-true, eq-eqb}
use Rattle.ll_rights.specs.Map.{Map, insert}
use Rattle.ll_node.specs.Slot.{Slot}
use Rattle.ll_seq.specs.State.{bytes_of}
use Rattle.ll_seq.specs.Tree.{kind_or_file}
use Rattle.ll_laws.proofs.Chains.{same_Some}
use Rattle.ll_laws.specs.Walk.{Walk, marks}
use Rattle.ll_laws.specs.World.{World, shown, is_marked}
use Rattle.ll_node.specs.declared.held.Held.{Held}
use Rattle.ll_journal.specs.Book.{Book, Spares, inode_in, slot_of, held_of, mark_of, has_mark}
use Rattle.ll_node.specs.Accounts.{names_map}
use Rattle.ll_node.specs.InodeTable.{NotIn}
use Rattle.ll_node.specs.Lent.{vacant}
use Rattle.ll_node.specs.InodeTable.{ArePlaced}
use Rattle.ll_journal.proofs.MarkOf.{AreClients, is_marked_is, mark_put_same}

-- ---- what is lent

by_vacancy : (P : Held → Type 0) (b : Book) (k : ℕ) → ((inode_in b k ≡ 0) → P vacant)
    → ((inode_in b k ≢ 0) → P (held_of b.world (inode_in b k))) → P (slot_of b k)
by_vacancy P b k none some = elim (inode_in b k == 0) as (λ t. (inode_in b k == 0) ≡ t
    → P (cond t vacant (held_of b.world (inode_in b k)))) [
      | true ↦ λ e. none (eqb-true (inode_in b k) 0 e)
      | false ↦ λ e. some (λ z. cc (sym e ∙ eq-eqb (inode_in b k) 0 z))
    ] refl

pub inode_is : (b : Book) (k : ℕ) (held : Held) → held ≡ slot_of b k → held.inode ≡ inode_in b k
inode_is b k held is = ap (λ (h : Held). h.inode) is
    ∙ by_vacancy (λ h. h.inode ≡ inode_in b k) b k (λ e. sym e) (λ n. refl)

pub held_is : (b : Book) (k : ℕ) (held : Held) → held ≡ slot_of b k → held.inode ≢ 0 → held ≡ held_of b.world held.inode
held_is b k held is some =
    is ∙ by_vacancy (λ h. h ≡ held_of b.world (inode_in b k)) b k (λ e. absurd (some (inode_is b k held is ∙ e)))
    (λ n. refl)
    ∙ ap (held_of b.world) (sym (inode_is b k held is))

not_some : {A : Type 0} (o : Option A) → is_none o ≡ not (is_some o)
not_some None = refl
not_some (Some x) = refl

-- a mark lies in the slot where a walk stands there
pub unmarked_is : (b : Book) (k : ℕ) (held : Held) → held ≡ slot_of b k → held.inode ≢ 0 → AreClients b.world
    → is_none held.node.mark ≡ not (is_marked b.world held.inode)
unmarked_is b k held is some known =
    ap (λ (h : Held). is_none h.node.mark) (held_is b k held is some) ∙ not_some (mark_of b.world held.inode)
    ∙ ap not (sym (is_marked_is b.world held.inode known))

-- ---- after a move

-- the slot's content is the same, with the mark that its directory has then
pub lent_after : (b : Book) (walks : Map nat_cmp Walk) (gate : Option ℕ) (k : ℕ) (held : Held) (node : Slot)
    → held ≡ slot_of b k → held.inode ≢ 0
    → node ≡ record held.node { mark = mark_of (record b.world { walks = walks; gate = gate }) held.inode }
    → record { inode = held.inode; node = node }
    ≡ slot_of (record b { world = record b.world { walks = walks; gate = gate } }) k
lent_after b walks gate k held node is some marked =
    ap (λ (n : Slot). record { inode = held.inode; node = n }) marked
    ∙ ap (λ (h : Held). record { inode = held.inode; node = record h.node { mark = mark_of after held.inode } })
    (held_is b k held is some)
    ∙ ap (held_of after) (inode_is b k held is)
    ∙ sym (by_vacancy (λ h. h ≡ held_of after (inode_in b k)) (record b { world = after }) k
    (λ e. absurd (some (inode_is b k held is ∙ e))) (λ n. refl))
  where
    after : World
    after = record b.world { walks = walks; gate = gate }

-- where the walk stands in the same directories of slots that aren't lent, these are as they were
pub spares_moved : (b b' : Book) (number : ℕ) (walk : Walk) (gate : Option ℕ) (ks : List ℕ)
    → b'.world ≡ record b.world { walks = insert b.world.walks number walk; gate = gate } → b'.inodes ≡ b.inodes
    → AreClients b.world → AreClients b'.world
    → ((j : ℕ) → NotIn j ks → inode_in b j ≢ 0 → has_mark b.world (inode_in b j) number ≡ marks walk (inode_in b j))
    → Spares b b' ks
spares_moved b b' number walk gate ks world inodes known after same = record {
  limit = ap (λ (w : World). w.limit) world;
  size = ap length inodes;
  slots = λ j out.
      (λ i. slot_of (record b { world = world i; inodes = inodes i }) j)
      ∙ elim (inode_in b j == 0) as (λ t. (inode_in b j == 0) ≡ t
      → cond t vacant (held_of moved (inode_in b j)) ≡ cond t vacant (held_of b.world (inode_in b j))) [
        | true ↦ λ e. refl
        | false ↦ λ e. mark_kept j out (λ z. cc (sym e ∙ eq-eqb (inode_in b j) 0 z))
      ] refl;
}
  where
    moved : World
    moved = record b.world { walks = insert b.world.walks number walk; gate = gate }

    mark_kept : (j : ℕ) → NotIn j ks → inode_in b j ≢ 0 → held_of moved (inode_in b j) ≡ held_of b.world (inode_in b j)
    mark_kept j out some =
        ap (λ (m : Option ℕ). record {
          inode = inode_in b j;
          node = record {
            kind = kind_or_file (shown b.world) (inode_in b j);
            names = names_map (shown b.world) (inode_in b j);
            bytes = bytes_of (shown b.world) (inode_in b j);
            mark =
                m;
          };
        }) (mark_put_same b.world moved number walk refl (inode_in b j) known (subst AreClients world after)
        (same j out some))

-- ---- slots of two inodes are two

some_index : (xs : List ℕ) (k i : ℕ) → slice_index_or xs k 0 ≡ i → i ≢ 0 → slice_get xs k ≡ Some i
some_index [] k i e some = absurd (some (sym e))
some_index (x ∷ xs) zero i e some = ap (λ n. Some n) e
some_index (x ∷ xs) (suc k) i e some = some_index xs k i e some

pub one_slot : (b : Book) (places : Map nat_cmp ℕ) → ArePlaced b.inodes places → (j k : ℕ) → inode_in b j ≡ inode_in b k
    → inode_in b j ≢ 0 → j ≡ k
one_slot b places placed j k same some =
    same_Some j k (sym (placed.lies j (inode_in b j) (some_index b.inodes j (inode_in b j) refl some) some)
    ∙ placed.lies k (inode_in b j) (some_index b.inodes k (inode_in b j) (sym same) some) some)
