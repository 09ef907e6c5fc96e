-- The slot of the directory to which a walk would go down.
use Rattle.std.specs.Prelude.{◌≡◌, ℕ, zero, suc, true, false, cond, not, ◌==◌, List, [], ◌∷◌, Option, Some, None}
use Rattle.std.specs.Prelude.{option_map, option_and_then, slice_get, slice_index_or, IfSome, IfNone, refl}
use Rattle.std.specs.Option.{option_map_or}
use Rattle.std.proofs.Common.{sym, subst, ap, ◌∙◌}
use Rattle.std.proofs.lemmas.Bool.{eqb-true, eq-eqb}
use Rattle.ll_rights.specs.Map.{get}
use Rattle.ll_seq.specs.State.{child}
use Rattle.ll_laws.proofs.Chains.{same_Some}
use Rattle.ll_laws.specs.Walk.{Walk, Leg, turn, further, further_by, leg_below}
use Rattle.ll_laws.specs.World.{World, shown, domain_of}
use Rattle.ll_node.specs.declared.held.Held.{Held}
use Rattle.ll_journal.specs.declared.journal.Journal.TheInside.{Inside}
use Rattle.ll_journal.specs.Book.{Seat, inode_in, slot_of}
use Rattle.ll_journal.specs.Kept.{IsKept, seat_at, world_of, book_of}
use Rattle.ll_journal.specs.Checks.{directory_below, directory_from, directory_for, directory_at, is_directory}
use Rattle.ll_journal.specs.Steps.{GoesDown, IsNext, leg_in_turn}
use Rattle.ll_journal.proofs.LentAfter.{inode_is}
use Rattle.ll_journal.proofs.RootDescents.{walk_here, no_walk}
use Rattle.ll_journal.proofs.Descents.{looked_up, one_more, if_dir, directory_kind, directory_fact, living_placed}

pub index_there : (xs : List ℕ) (k i : ℕ) → slice_get xs k ≡ Some i → slice_index_or xs k 0 ≡ i
index_there [] k i e = absurd (cc e)
index_there (x ∷ xs) zero i e = same_Some x i e
index_there (x ∷ xs) (suc k) i e = index_there xs k i e

pub nobody_next : (j : Inside) (number from : ℕ) → seat_at j.seats.items number ≡ None
    → GoesDown (book_of j) number from → ⊥
nobody_next j number from none is =
    cc (sym is.in_turn ∙ ap (option_and_then (λ (v : Walk). turn v.at)) (no_walk j number none))

module _ (j : Inside) (h : IsKept j) (number place : ℕ) (seat : Seat) (at : slice_get j.seats.items place ≡ Some seat)
    (numbered : number ≡ suc place)
    (k : ℕ) (from : Held) (lent : from ≡ slot_of (book_of j) k) where
  abbrev w : World
  w = world_of j

  -- what is found, by the inode
  abbrev Found : Option ℕ → Type 0
  Found None = GoesDown (book_of j) number k → ⊥
  Found (Some i) = ((slot : ℕ) × (get j.table.places i ≡ Some slot))
      × ((to : ℕ) → inode_in (book_of j) to ≡ i → IsNext (book_of j) number k to)

  walk_is : (o : Option Walk) → seat.walk ≡ o → get w.walks number ≡ o
  walk_is o e = walk_here j h number place seat at numbered ∙ e

  not_going : (o : Option Walk) → seat.walk ≡ o → option_map_or (λ (v : Walk). not v.stale) o false ≡ false → Found None
  not_going o is e next = cc (sym next.going
      ∙ ap (λ (p : Option Walk). option_map_or (λ (v : Walk). not v.stale) p false) (walk_is o is) ∙ e)

  module _ (walk : Walk) (is : seat.walk ≡ Some walk) (fresh : walk.stale ≡ false) where
    turn_is : leg_in_turn w number ≡ turn walk.at
    turn_is = ap (option_and_then (λ (v : Walk). turn v.at)) (walk_is (Some walk) is)

    module _ (leg : Leg) (turned : turn walk.at ≡ Some leg) where
      same_leg : (next : GoesDown (book_of j) number k) → leg ≡ next.leg
      same_leg next = same_Some leg next.leg (sym (turn_is ∙ turned) ∙ next.in_turn)

      not_further : further (shown w) (domain_of w number) leg ≡ None → Found None
      not_further e next = cc (sym e ∙ ap (further (shown w) (domain_of w number)) (same_leg next) ∙ next.further_is)

      not_here : (from.inode == leg.here) ≡ false → Found None
      not_here e next = cc (sym e ∙ eq-eqb from.inode leg.here (inode_is (book_of j) k from lent ∙ next.from_here
          ∙ ap (λ (v : Leg). v.here) (sym (same_leg next))))

      module _ (here : (from.inode == leg.here) ≡ true) where
        found_inode : (name : List ℕ) (rest : List (List ℕ)) → leg.ahead ≡ name ∷ rest → (o : Option ℕ)
            → child (shown w) leg.here name ≡ o → Found (directory_at j.table.facts o)
        found_inode name rest ahead None e =
            not_further (one_more j h number place seat at numbered k k from from lent lent walk is fresh leg turned
            here name rest ahead None e)
        found_inode name rest ahead (Some i) e =
            elim (is_directory j.table.facts i) as (λ b. is_directory j.table.facts i ≡ b
            → Found (cond b (Some i) None)) [
              | true ↦ λ d.
                  let kind = directory_kind (shown w) i (sym (directory_fact j h i) ∙ d) in (
                    living_placed j h i kind.0 kind.1,
                    λ to there. record {
                      going = ap (λ (p : Option Walk). option_map_or (λ (v : Walk). not v.stale) p false)
                          (walk_is (Some walk) is) ∙ ap not fresh;
                      leg = leg;
                      next = leg_below (domain_of w number) leg name rest i;
                      in_turn = turn_is ∙ turned;
                      further_is = if_dir j h number place seat at numbered k k from from lent lent walk is fresh
                          leg turned
                          here name rest ahead i e true d;
                      from_here = sym (inode_is (book_of j) k from lent) ∙ eqb-true from.inode leg.here here;
                      to_there = there;
                    },
                  )
              | false ↦ λ d. not_further
                  (if_dir j h number place seat at numbered k k from from lent lent walk is fresh leg
                  turned here name rest ahead i e false d)
            ] refl

        found_name : Found (directory_for j.table.facts (slice_get leg.ahead 0) from)
        found_name = elim leg.ahead as (λ p. leg.ahead ≡ p → Found (directory_for j.table.facts (slice_get p 0) from)) [
          | [] ↦ λ e. not_further (ap (further_by (shown w) (domain_of w number) leg) e)
          | name ∷ rest ↦ λ e.
              subst (λ o. Found (directory_at j.table.facts o))
              (sym (looked_up j h number place seat at numbered k k from from lent lent walk is fresh leg turned
              here name))
              (found_inode name rest e (child (shown w) leg.here name) refl)
        ] refl

      found_here : Found (directory_from j.table.facts (Some leg.here) (slice_get leg.ahead 0) from)
      found_here = elim (from.inode == leg.here) as (λ b. (from.inode == leg.here) ≡ b
          → Found (cond b (directory_for j.table.facts (slice_get leg.ahead 0) from) None)) [
            | true ↦
                found_name
            | false ↦ not_here
          ] refl

    found_turn : Found (directory_from j.table.facts (option_map (λ (v : Leg). v.here) (turn walk.at))
        (option_and_then (λ (v : Leg). slice_get v.ahead 0) (turn walk.at)) from)
    found_turn = elim (turn walk.at) as (λ t. turn walk.at ≡ t
        → Found (directory_from j.table.facts (option_map (λ (v : Leg). v.here) t)
        (option_and_then (λ (v : Leg). slice_get v.ahead 0) t) from)) [
          | None ↦ λ e next. cc (sym (turn_is ∙ e) ∙ next.in_turn)
          | Some leg ↦ λ e. found_here leg e
        ] refl

  found_walk : (walk : Walk) → seat.walk ≡ Some walk
      → Found (directory_below j.table.facts (record seat { walk = Some walk }) from)
  found_walk walk is = elim walk.stale as (λ b. walk.stale ≡ b
      → Found (cond (not b) (directory_from j.table.facts (option_map (λ (v : Leg). v.here) (turn walk.at))
      (option_and_then (λ (v : Leg). slice_get v.ahead 0) (turn walk.at)) from) None)) [
        | true ↦ λ e. not_going (Some walk) is (ap not e)
        | false ↦ found_turn walk is
      ] refl

  found_below : Found (directory_below j.table.facts seat from)
  found_below = elim seat.walk as (λ o. seat.walk ≡ o
      → Found (directory_below j.table.facts (record seat { walk = o }) from)) [
        | None ↦ λ e. not_going None e refl
        | Some walk ↦ found_walk walk
      ] refl

  pub next_is : (i : ℕ) → directory_below j.table.facts seat from ≡ Some i → (to : ℕ) → inode_in (book_of j) to ≡ i
      → IsNext (book_of j) number k to
  next_is i e = (subst Found e found_below).1

  pub next_none : directory_below j.table.facts seat from ≡ None → GoesDown (book_of j) number k → ⊥
  next_none e = subst Found e found_below

  pub next_found : (i : ℕ) → directory_below j.table.facts seat from ≡ Some i → (o : Option ℕ)
      → o ≡ get j.table.places i → IfSome o (λ slot. IsNext (book_of j) number k slot)
      × IfNone o (GoesDown (book_of j) number k → ⊥)
  next_found i e None is = let found = subst Found e found_below in absurd (cc (is ∙ found.0.1))
  next_found i e (Some slot) is = let found = subst Found e found_below in
      (found.1 slot (index_there j.table.inodes slot i (h.table.placed.there i slot (sym is)).0), tt)
