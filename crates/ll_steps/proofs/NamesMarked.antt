-- What is in the way of an answer: another client's walk, in a node that the call names.
use Rattle.std.specs.Prelude.{◌≡◌, ◌≢◌, ℕ, Bool, true, false, not, ◌&&◌, ◌||◌, ◌==◌, List, [], ◌∷◌}
use Rattle.std.specs.Prelude.{drop, Option, Some, None, IfNone}
use Rattle.std.specs.Prelude.{refl}
use Rattle.std.specs.List.{AllByRecursion, list_any}
use Rattle.std.proofs.Common.{sym, ap, ◌∙◌, inl, inr}
use Rattle.std.proofs.lemmas.Bool.{eqb-true, eq-eqb}
use Rattle.ll_rights.specs.Map.{get}
use Rattle.ll_path.specs.declared.target.Target.{Target}
use Rattle.ll_seq.specs.declared.call.Call.{Call}
use Rattle.ll_seq.specs.Call.{first_of, first_path, path_of, second_of, second_path, targets}
use Rattle.ll_seq.specs.State.{State}
use Rattle.ll_seq.proofs.Parted.{or_left, or_right, or_split}
use Rattle.ll_laws.proofs.Chains.{same_Some}
use Rattle.ll_laws.proofs.Tests as tests
use Rattle.ll_laws.proofs.WalkMaps.{found}
use Rattle.ll_laws.specs.Commits.{first_end, second_end}
use Rattle.ll_laws.specs.Sound.{IsSound}
use Rattle.ll_laws.specs.declared.step.Step.TheVariants.{Commit}
use Rattle.ll_laws.specs.Walk.{Walk, Leg, Position, Above, Down, Split, at_ends}
use Rattle.ll_laws.specs.Walk.{is_in, legs, marks}
use Rattle.ll_laws.specs.World.{is_marked, is_marked_by_other}
use Rattle.ll_laws.specs.World.{last_node, last_nodes, shown}
use Rattle.ll_node.specs.declared.held.Held.{Held}
use Rattle.ll_journal.specs.Book.{Book, has_mark, inode_in, mark_of, slot_of}
use Rattle.ll_journal.specs.InWay.{IsFreeFrom, IsInWay}
use Rattle.ll_journal.specs.WalkEnds.{is_lent}
use Rattle.ll_journal.proofs.AtEnds.{any_last}
use Rattle.ll_journal.proofs.LastSpots.{few_targets}
use Rattle.ll_journal.proofs.LentAfter.{inode_is}
use Rattle.ll_journal.proofs.MarkOf.{has_mark_of, who_passes}
use Rattle.ll_steps.specs.Unmet.{IsFree, IsWhyNot}
use Rattle.ll_steps.specs.declared.unmet.Unmet.TheVariants as unmet
use Rattle.ll_steps.proofs.Reasons.{because}
use Rattle.ll_steps.proofs.ReasonsFound.{marked_by, unmarked}

-- a slot in which the inode lies is one of these
lies_among : (b : Book) (P : ℕ → Type 0) (ks : List ℕ) (inode : ℕ) → AllByRecursion P ks
    → is_lent b ks inode ≡ true → (k : ℕ) × P k × (inode_in b k ≡ inode)
lies_among b P [] inode all e = absurd (cc e)
lies_among b P (k ∷ ks) inode all e = elim (or_split (inode_in b k == inode) (is_lent b ks inode) e) [
  | inl here ↦ (k, all.0, eqb-true (inode_in b k) inode here)
  | inr more ↦ lies_among b P ks inode all.1 more
]

first_stands : (at : Position) (leg : Leg) → first_end at ≡ Some leg
    → list_any (λ (l : Leg). l.here == leg.here) (legs at) ≡ true
first_stands Above leg e = absurd (cc e)
first_stands (Down trunk) leg e = or_left (trunk.here == leg.here) false
    (eq-eqb trunk.here leg.here (ap (λ (l : Leg). l.here) (same_Some trunk leg e)))
first_stands (Split trunk old new) leg e = or_right (trunk.here == leg.here) _ (or_left (old.here == leg.here) _
    (eq-eqb old.here leg.here (ap (λ (l : Leg). l.here) (same_Some old leg e))))

second_stands : (at : Position) (leg : Leg) → second_end at ≡ Some leg
    → list_any (λ (l : Leg). l.here == leg.here) (legs at) ≡ true
second_stands Above leg e = absurd (cc e)
second_stands (Down trunk) leg e = or_left (trunk.here == leg.here) false
    (eq-eqb trunk.here leg.here (ap (λ (l : Leg). l.here) (same_Some trunk leg e)))
second_stands (Split trunk old new) leg e = or_right (trunk.here == leg.here) _ (or_right (old.here == leg.here) _
    (or_left (new.here == leg.here) false
    (eq-eqb new.here leg.here (ap (λ (l : Leg). l.here) (same_Some new leg e)))))

-- the legs at the ends
both_ends : (call : Call) (at : Position) → at_ends call at ≡ true
    → ((leg : Leg) × (first_end at ≡ Some leg)) × ((leg : Leg) × (second_end at ≡ Some leg))
both_ends call Above e = absurd (cc e)
both_ends call (Down trunk) e = ((trunk, refl), (trunk, refl))
both_ends call (Split trunk old new) e = ((old, refl), (new, refl))

-- a test that fails of what each path names
none_named : (s : State) (call : Call) (f : ℕ → Bool) → list_any f (last_node s (first_path call)) ≡ false
    → list_any f (last_node s (second_path call)) ≡ false → list_any f (last_nodes s call) ≡ false
none_named s call f one other = any_last s call f ∙ over (targets call) (few_targets call) one other
  where
    at : Target → Bool
    at t = list_any f (last_node s (path_of t))

    over : (ts : List Target) → drop 2 ts ≡ [] → list_any f (last_node s (first_of ts)) ≡ false
        → list_any f (last_node s (second_of ts)) ≡ false → list_any at ts ≡ false
    over [] few a b = refl
    over (t ∷ []) few a b = ap (λ x. x || false) a
    over (t ∷ (u ∷ [])) few a b = λ i. a i || (b i || false)
    over (t ∷ (u ∷ (v ∷ ts))) few a b = absurd (cc few)

-- nothing is, as seen from each slot where the walk stands
pub free_all : (b : Book) (client : ℕ) (ks : List ℕ) → AllByRecursion (IsFreeFrom b client) ks
    → ((inode : ℕ) → is_lent b ks inode ≡ has_mark b.world inode client) → IsFree b.world client
free_all b client ks all stood walk is fresh ends =
    let legs_there = both_ends walk.call walk.at ends in
    let one = legs_there.0 in
    let other = legs_there.1 in
    let first = lies_among b (IsFreeFrom b client) ks one.0.here all
    (stood one.0.here ∙ has_mark_of b.world one.0.here client walk is ∙ first_stands walk.at one.0 one.1) in
    let second = lies_among b (IsFreeFrom b client) ks other.0.here all
    (stood other.0.here ∙ has_mark_of b.world other.0.here client walk is ∙ second_stands walk.at other.0 other.1) in
    none_named (shown b.world) walk.call (is_marked_by_other b.world client)
    ((first.1 walk is fresh ends one.0 (sym first.2)).0 one.1)
    ((second.1 walk is fresh ends other.0 (sym second.2)).1 other.1)

-- as it is told
pub free_or : (b : Book) (client : ℕ) (ks : List ℕ) (o : Option ℕ)
    → ((inode : ℕ) → is_lent b ks inode ≡ has_mark b.world inode client)
    → IfNone o (AllByRecursion (IsFreeFrom b client) ks) → IfNone o (IsFree b.world client)
free_or b client ks None stood all = free_all b client ks all stood
free_or b client ks (Some way) stood all = tt

-- the mark on what is in the way is another client's
module _ (b : Book) (sound : IsSound b.world) (client way : ℕ) (it : IsInWay b client way) (held : Held)
    (lies : held ≡ slot_of b way) where
  lies_here : held.inode ≡ inode_in b way
  lies_here = inode_is b way held lies

  -- who has it
  who : (n : ℕ) × (walk : Walk) × (get b.world.walks n ≡ Some walk)
      × ((not (n == client) && marks walk (inode_in b way)) ≡ true)
  who = who_passes b.world.walks (λ (e : ℕ × Walk). not (e.0 == client) && marks e.1 (inode_in b way)) it.marked

  not_own : who.0 ≢ client
  not_own same =
      let parts = tests.both (not (who.0 == client)) (marks who.1 (inode_in b way)) who.3 in
      cc (sym (tests.not_true (who.0 == client) parts.0) ∙ eq-eqb who.0 client same)

  pub way_marked : (other : ℕ) → mark_of b.world held.inode ≡ Some other
      → IsWhyNot b.world (Commit client) (Some (unmet.Marked held.inode other))
  way_marked other e =
      let own = marked_by b.world held.inode other e in
      let theirs = tests.both (not (who.0 == client)) (marks who.1 (inode_in b way)) who.3 in
      let same : who.0 ≡ other = sound.apart who.0 who.1 who.2 other own.0 own.1 (inode_in b way) theirs.1
      (ap (marks own.0) (sym lies_here) ∙ own.2) in
      because b.world (Commit client) (unmet.Marked held.inode other) (
        it.walk,
        it.is,
        (
          it.ends,
          ap (is_in (last_nodes (shown b.world) it.walk.call)) lies_here ∙ it.named,
          (λ g. not_own (same ∙ g)),
          marked_by b.world held.inode other e,
        ),
      )

  pub way_unmarked : mark_of b.world held.inode ≡ None → ⊥
  way_unmarked none =
      let parts = tests.both (not (who.0 == client)) (marks who.1 (inode_in b way)) who.3 in
      cc (sym (unmarked b.world held.inode sound none) ∙ ap (is_marked b.world) lies_here
      ∙ found b.world.walks (λ (e : ℕ × Walk). marks e.1 (inode_in b way)) who.0 who.1 who.2 parts.1)
