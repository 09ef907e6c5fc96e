-- What the call of a walk that has ended comes to, and whose walks are stale then.
use Rattle.std.specs.Prelude.{◌≡◌, ℕ, Bool, false, List, [], ◌∷◌, ◌++◌, map, Option, Some, None, is_some, option_map}
use Rattle.std.specs.Prelude.{refl}
use Rattle.std.specs.Option.{option_map_or}
use Rattle.std.proofs.Common.{sym, subst, ap, ◌∙◌}
use Rattle.ll_rights.specs.Map.{get}
use Rattle.ll_path.specs.Path.{Path, is_root, parent}
use Rattle.ll_rules.specs.Layer.{Layer}
use Rattle.ll_decide.specs.Masks.{AreMasks}
use Rattle.ll_seq.specs.declared.node.Node.{Node}
use Rattle.ll_seq.specs.State.{State, kind_of}
use Rattle.ll_seq.specs.Tree.{named, ancestors}
use Rattle.ll_node.specs.InodeTable.{IsTable, Table}
use Rattle.ll_seq.proofs.LongerPaths.{chain_last}
use Rattle.ll_seq.specs.declared.found.Spot.{Spot}
use Rattle.ll_laws.specs.Walk.{Walk}
use Rattle.ll_laws.specs.World.{overtaken}
use Rattle.ll_journal.specs.Book as book
use Rattle.ll_journal.specs.Performed.{IsEndAt, moved_list}
use Rattle.ll_journal.specs.declared.decide_end.Moved.{Moved}
use Rattle.ll_journal.proofs.StaleWalks.{or_false, overtaken_seat}

-- ---- what is granted on the path

module _ (s : State) (domain : List Layer) (path : Path) (spot : Spot) (masks : List ℕ)
    (end : IsEndAt s domain path spot masks) where
  -- gone down to the node under the last name
  pub granted_below : is_root path ≡ false → (here : Option ℕ) → here ≡ named s path → (result : List ℕ)
      → ((inodes : List ℕ) → AreMasks masks domain inodes
      → AreMasks result domain (inodes ++ option_map_or (λ (j : ℕ). j ∷ []) here []))
      → AreMasks result domain (ancestors s path)
  granted_below below here is result more =
      subst (AreMasks result domain)
      (ap (λ o. ancestors s (parent path) ++ option_map_or (λ (j : ℕ). j ∷ []) o []) is
      ∙ sym (chain_last s path below))
      (more (ancestors s (parent path)) end.masks)

-- ---- no node has the inode 0

pub no_zero : (s : State) (kept : List ℕ) (t : Table) → IsTable s kept t → kind_of s 0 ≡ None
no_zero s kept t table = by (get t.places 0) refl (get s.nodes 0) (table.living 0)
  where
    by : (o : Option ℕ) → get t.places 0 ≡ o → (p : Option Node) → is_some (get t.places 0) ≡ is_some p
        → option_map (λ (n : Node). n.kind) p ≡ None
    by o e None living = refl
    by None e (Some n) living = cc (sym (ap is_some e) ∙ living)
    by (Some slot) e (Some n) living = absurd ((table.placed.there 0 slot e).1 refl)

-- ---- whose walks are stale

one_passed : (seat : book.Seat) → seat ≡ overtaken_seat [] seat
one_passed seat = ap (λ (o : Option Walk). record seat { walk = o }) (by seat.walk)
  where
    by : (o : Option Walk) → o ≡ option_map (overtaken []) o
    by None = refl
    by (Some walk) = ap (λ (b : Bool). Some (record walk { stale = b })) (sym (or_false walk.stale))

all_passed : (seats : List book.Seat) → seats ≡ map (overtaken_seat []) seats
all_passed [] = refl
all_passed (seat ∷ seats) = λ i. one_passed seat i ∷ all_passed seats i

-- none is, where nothing moves
pub none_overtaken : (seats : List book.Seat) (moved : Moved) → moved.first ≡ None → moved.second ≡ None
    → seats ≡ map (overtaken_seat (moved_list moved)) seats
none_overtaken seats moved first second =
    all_passed seats ∙ sym (λ i. map (overtaken_seat (moved_list (record { first = first i; second = second i })))
    seats)
