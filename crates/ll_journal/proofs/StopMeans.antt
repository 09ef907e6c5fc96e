-- Why a commit stops, by what the code finds: each case is a lemma of its own.
use Rattle.std.specs.Prelude.{◌≡◌, ℕ, suc, true, List, map, nat_le, Option, Some, None, slice_get, refl}
use Rattle.std.proofs.Common.{sym, subst, inl, inr}
use Rattle.ll_rights.specs.Map.{len}
use Rattle.ll_seq.specs.State.{Name}
use Rattle.ll_laws.specs.World.{shown, is_marked_by_other}
use Rattle.ll_node.specs.declared.held.Held.{Held}
use Rattle.ll_journal.specs.declared.journal.Journal.TheInside.{Inside}
use Rattle.ll_journal.specs.CommitCheck.{CommitCheck}
use Rattle.ll_journal.specs.Book.{Seat, slot_of}
use Rattle.ll_journal.specs.Kept.{IsKept, book_of, world_of}
use Rattle.ll_journal.specs.Checks.{Stops, StopsBy, goes_on, is_all_lent}
use Rattle.ll_journal.specs.Seated.{next_in}
use Rattle.ll_journal.specs.Stopped.{IsStop}
use Rattle.ll_journal.proofs.LentMarks.{not_all_marked}
use Rattle.ll_journal.proofs.StopsAtLast.{stops_at_last, walking}
use Rattle.ll_journal.proofs.StopsOnWay.{not_going, stops_on_way}

module _ (j : Inside) (h : IsKept j) (number place : ℕ) (seat : Seat) (at : slice_get j.seats.items place ≡ Some seat)
    (numbered : number ≡ suc place)
    (slots : List ℕ) (lent : List Held) (told : lent ≡ map (slot_of (book_of j)) slots) where
  -- with the next name, if there is one
  by_next : goes_on seat ≡ true → is_all_lent lent seat ≡ true → (stop : CommitCheck) → (next : Option Name)
      → next_in seat ≡ next
      → StopsBy j.table.facts (nat_le j.room (len (shown (world_of j)).nodes)) (is_marked_by_other (world_of j) number)
      slots lent seat next stop → IsStop (book_of j) number slots stop
  by_next goes all stop None is stops =
      stops_at_last j h number place seat at numbered slots lent told goes all is stop stops
  by_next goes all stop (Some name) is stops =
      stops_on_way j h number place seat at numbered slots lent told goes all name is stops.0 stops.1 stop stops.2

  pub stop_means : (stop : CommitCheck)
      → Stops j.table.facts (nat_le j.room (len (shown (world_of j)).nodes)) (is_marked_by_other (world_of j) number)
      slots lent seat stop → IsStop (book_of j) number slots stop
  stop_means stop stops = elim stops [
    | inl idle ↦ subst (IsStop (book_of j) number slots) (sym idle.1)
        (not_going j h number place seat at numbered slots idle.0)
    | inr going ↦ elim going [
      | inl astray ↦
          let walk = walking seat.walk astray.0 in
          subst (IsStop (book_of j) number slots) (sym astray.2)
          (not_all_marked j h number place seat at numbered slots lent told walk.0 walk.1 walk.2 astray.1)
      | inr lent_all ↦ by_next lent_all.0 lent_all.1 stop (next_in seat) refl lent_all.2
    ]
  ]
