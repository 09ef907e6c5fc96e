-- Whose walk stands in a directory, as it is found seat by seat.
use Rattle.std.specs.Prelude.{◌≡◌, ◌≢◌, ℕ, zero, suc, ◌+◌, ◌<◌, ◌≤◌, true, false, ◌==◌, List, length, slice_get}
use Rattle.std.specs.Prelude.{Option, Some, None, option_and_then, IfNone, IfSome, refl}
use Rattle.std.specs.Option.{option_map_or}
use Rattle.std.specs.Ordering.{nat_cmp}
use Rattle.std.proofs.Common.{sym, ap, ◌∙◌, arith}
use Rattle.std.proofs.lemmas.Bool.{eqb-true, eq-eqb}
use Rattle.std.proofs.lemmas.Option.{slice_get_within}
use Rattle.ll_rights.specs.declared.kind.Kind.{Kind}
use Rattle.ll_rights.specs.Map.{Map, get}
use Rattle.ll_seq.specs.State.{kind_of}
use Rattle.ll_laws.proofs.Chains.{same_Some}
use Rattle.ll_laws.specs.Walk.{Walk, marks}
use Rattle.ll_laws.specs.World.{World, shown}
use Rattle.ll_journal.specs.declared.journal.Journal.TheInside.{Inside}
use Rattle.ll_journal.specs.Book.{Seat, has_mark, inode_in, mark_of}
use Rattle.ll_journal.specs.Kept.{IsKept, book_of, seat_at, walks_from, world_of}
use Rattle.ll_journal.proofs.Begun.{walk_at}
use Rattle.ll_journal.proofs.Descents.{living_placed}
use Rattle.ll_journal.proofs.MarkOf.{are_clients, mark_is, mark_none}
use Rattle.ll_journal.proofs.StaleWalks.{stands_in}
use Rattle.ll_journal.proofs.StandingWalks.{is_placed}

-- the walk of none of the first so many seats stands there
abbrev pub NobodyBefore : List Seat → ℕ → ℕ → Type 0
NobodyBefore seats inode n =
    (place : ℕ) (seat : Seat) → place < n → slice_get seats place ≡ Some seat → stands_in seat inode ≡ false

module _ (seats : List Seat) (inode : ℕ) where
  pub nobody_more : (n : ℕ) (seat : Seat) → slice_get seats n ≡ Some seat → stands_in seat inode ≡ false
      → NobodyBefore seats inode n → NobodyBefore seats inode (n + 1)
  nobody_more n seat at free before place seat' lt at' =
      elim (place == n) as (λ b. (place == n) ≡ b → stands_in seat' inode ≡ false) [
        | true ↦ λ e.
            let here : place ≡ n = eqb-true place n e in
            let same : seat ≡ seat' = same_Some seat seat' (sym at ∙ ap (slice_get seats) (sym here) ∙ at') in
            ap (λ (s : Seat). stands_in s inode) (sym same) ∙ free
        | false ↦ λ e.
            let other : place ≢ n = λ g. cc (sym e ∙ eq-eqb place n g) in
            before place seat' (omega arith) at'
      ] refl

  module _ (w : World) (is : w.walks ≡ walks_from 1 seats) where
    mark_at : (number : ℕ) → has_mark w inode number
        ≡ option_map_or (λ (walk : Walk). marks walk inode)
        (option_and_then (λ (seat : Seat). seat.walk) (seat_at seats number)) false
    mark_at number = ap (λ (o : Option Walk). option_map_or (λ (walk : Walk). marks walk inode) o false)
        (ap (λ (m : Map nat_cmp Walk). get m number) is ∙ walk_at seats number)

    pub seat_marks : (place : ℕ) (seat : Seat) → slice_get seats place ≡ Some seat → stands_in seat inode ≡ true
        → has_mark w inode (place + 1) ≡ true
    seat_marks place seat at stands =
        let next : place + 1 ≡ suc place = omega arith in
        ap (has_mark w inode) next ∙ mark_at (suc place)
        ∙ ap (λ (o : Option Seat). option_map_or (λ (walk : Walk). marks walk inode)
        (option_and_then (λ (s : Seat). s.walk) o) false) at
        ∙ stands

    pub nobody_marks : (n : ℕ) → length seats ≤ n → NobodyBefore seats inode n → (number : ℕ)
        → has_mark w inode number ≡ false
    nobody_marks n all none zero = mark_at zero
    nobody_marks n all none (suc place) = mark_at (suc place) ∙ by (slice_get seats place) refl
      where
        by : (o : Option Seat) → slice_get seats place ≡ o
            → option_map_or (λ (walk : Walk). marks walk inode) (option_and_then (λ (seat : Seat). seat.walk) o) false
            ≡ false
        by None at = refl
        by (Some seat) at =
            let within : place < length seats = slice_get_within seats place seat at in
            none place seat (omega arith) at

-- what is told so is the mark
pub mark_told : (j : Inside) → IsKept j → (inode : ℕ) (o : Option ℕ)
    → IfSome o (λ client. (w : World) → w.walks ≡ walks_from 1 j.seats.items → has_mark w inode client ≡ true)
    → IfNone o ((w : World) → w.walks ≡ walks_from 1 j.seats.items → (client : ℕ) → has_mark w inode client ≡ false)
    → o ≡ mark_of (world_of j) inode
mark_told j h inode None some none = sym (mark_none (world_of j) inode (none (world_of j) refl))
mark_told j h inode (Some client) some none =
    sym (mark_is (world_of j) inode (are_clients (world_of j) h.sound) h.sound.apart client (some (world_of j) refl))

-- ---- the slot of an inode

pub slot_lies : (j : Inside) → IsKept j → (inode : ℕ) (o : Option ℕ) → o ≡ get j.table.places inode
    → IfSome o (λ slot. (inode ≢ 0) × (inode_in (book_of j) slot ≡ inode))
slot_lies j h inode None e = tt
slot_lies j h inode (Some slot) e =
    ((h.table.placed.there inode slot (sym e)).1, (is_placed j h inode (Some slot) e).lies)

pub slot_living : (j : Inside) → IsKept j → (inode : ℕ) (o : Option ℕ) → o ≡ get j.table.places inode
    → IfNone o (kind_of (shown (world_of j)) inode ≡ None)
slot_living j h inode (Some slot) e = tt
slot_living j h inode None e = by (kind_of (shown (world_of j)) inode) refl
  where
    by : (k : Option Kind) → kind_of (shown (world_of j)) inode ≡ k → k ≡ None
    by None f = refl
    by (Some kind) f = let slot = living_placed j h inode kind f in absurd (cc (e ∙ slot.1))
