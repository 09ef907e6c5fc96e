use Rattle.std.proofs.Common.{rules, ◌≡◌, ◌<◌, ℕ, List, Some, length, map, ap, refl, sym, subst, ◌∙◌, true}
use Rattle.std.specs.Prelude.{slice_get, slice_set}
use Rattle.ll_rights.specs.Map.{get}
use Rattle.ll_node.specs.Lent.{unmarked}
use Rattle.ll_rules.specs.Layer.{Layer}
use Rattle.ll_laws.specs.Walk as walks
use Rattle.ll_laws.specs.World.{domain_of, without_walk}
use Rattle.ll_journal.specs.Book.{Book, Seat, slot_of}
use Rattle.ll_journal.specs.Performed.{EndsAs}
use Rattle.ll_journal.specs.WalkEnds.{is_lent}
use Rattle.ll_journal.specs.Kept.{book_of, spares_of, world_of}
use Rattle.ll_journal.proofs.EndedWalks.{domain_is, ended_book, ended_slots, ended_sound, ended_spares, ended_world}
use Rattle.ll_journal.proofs.EndedWalks.{place_within, seat_walks, spares_same, walk_of}
use Rattle.ll_journal.proofs.Starts.{at_place, kept_by, over_spares, rest_kept, spares_kept}
use Rattle.ll_journal.proofs.journal.Journal.end_walk.Goals as goal

pub index_mut-seat-requires : goal.index_mut-seat-requires
index_mut-seat-requires c =
    let within : c.args.place < length c.self.inside.seats.items =
    place_within c.self.inside c.args.self.now c.self.view_is c.args.place c.requires.place in
    search rules

module _ (c : goal.After-index_mut-seat) where
  pub at : slice_get c.self.inside.seats.items c.args.place ≡ Some c.index_mut-seat.result.now
  at = at_place c.self.inside.seats.items c.self.inside.seats.items c.args.client c.args.place
      c.index_mut-seat.result.now refl
      (c.requires.numbered, place_within c.self.inside c.args.self.now c.self.view_is c.args.place c.requires.place)
      c.index_mut-seat.ensures.value

pub end-requires : goal.end-requires
end-requires c =
    let walk = walk_of c.self.inside c.args.self.now c.self.view_is c.args.client c.requires.walk in (
      walk.0,
      seat_walks c.self.inside c.self.invariant c.args.client c.args.place c.index_mut-seat.result.now (at c)
          c.requires.numbered walk.0 walk.1,
    )

-- the seat before its walk ended, and the walk
at_end : (c : goal.After-self-2-1) → slice_get c.self.inside.seats.items c.args.place ≡ Some c.index_mut-seat.result.now
at_end c = at_place c.self.inside.seats.items c.self.inside.seats.items c.args.client c.args.place
    c.index_mut-seat.result.now refl
    (c.requires.numbered, place_within c.self.inside c.args.self.now c.self.view_is c.args.place c.requires.place)
    c.index_mut-seat.ensures.value

walk_then : (c : goal.After-self-2-1) → (walk : walks.Walk)
    × (get (world_of c.self.inside).walks c.args.client ≡ Some walk)
walk_then c = walk_of c.self.inside c.args.self.now c.self.view_is c.args.client c.requires.walk

pub invariant_of-self : goal.invariant_of-self
invariant_of-self c =
    kept_by c.self.inside _ c.args.place c.index_mut-seat.result.now c.end.new.self c.released-self-inside.result
    c.self.invariant (at_end c)
    (ap (λ (s : Seat). s.client) c.end.ensures.rest) (ap (λ (s : Seat). s.spare) c.end.ensures.rest)
    (ended_sound c.self.inside c.self.invariant c.args.client c.args.place c.index_mut-seat.result.now (at_end c)
    c.requires.numbered (walk_then c).0 (walk_then c).1
    c.end.new.self c.end.ensures.rest c.released-self-inside.result c.released-self-inside.ensures)
    refl refl refl refl refl refl

pub returns-clause-world : goal.returns-clause-world
returns-clause-world c =
    ended_world c.self.inside c.self.invariant c.args.client c.args.place c.index_mut-seat.result.now (at_end c)
    c.requires.numbered (walk_then c).0 (walk_then c).1
    c.end.new.self c.end.ensures.rest c.released-self-inside.result c.released-self-inside.ensures
    ∙ ap (λ (b : Book). without_walk b.world c.args.client) c.self.view_is

pub returns-clause-rest : goal.returns-clause-rest
returns-clause-rest c =
    rest_kept c.self.inside c.args.place c.index_mut-seat.result.now c.end.new.self (at_end c)
    (ap (λ (s : Seat). s.spare) c.end.ensures.rest) _ c.args.self.now c.self.view_is

-- of the seat, where it is of the client
in_seat : (c : goal.After-self-2-1) (walk : walks.Walk) → get c.args.self.now.world.walks c.args.client ≡ Some walk
    → c.index_mut-seat.result.now.walk ≡ Some walk
in_seat c walk is =
    seat_walks c.self.inside c.self.invariant c.args.client c.args.place c.index_mut-seat.result.now (at_end c)
    c.requires.numbered walk (ap (λ (b : Book). get b.world.walks c.args.client) c.self.view_is ∙ is)

domain_then : (c : goal.After-self-2-1)
    → c.index_mut-seat.result.now.client.domain ≡ domain_of c.args.self.now.world c.args.client
domain_then c =
    sym (domain_is c.self.inside c.self.invariant c.args.client c.args.place c.index_mut-seat.result.now (at_end c)
    c.requires.numbered) ∙ ap (λ (b : Book). domain_of b.world c.args.client) c.self.view_is

pub returns-clause-ended : goal.returns-clause-ended
returns-clause-ended c = λ walk is.
    subst (λ (ls : List Layer). EndsAs ls walk c.end.result) (domain_then c)
    (c.end.ensures.ended walk (in_seat c walk is))

pub returns-clause-lent : goal.returns-clause-lent
returns-clause-lent c = λ slots lent.
    c.unmark.ensures ∙ ap (map (unmarked c.args.client)) (lent
    ∙ ap (λ (b : Book). map (slot_of b) slots) (sym c.self.view_is))
    ∙ ended_slots c.self.inside c.self.invariant c.args.client c.args.place c.index_mut-seat.result.now (at_end c)
    c.requires.numbered (walk_then c).0 (walk_then c).1
    c.end.new.self c.end.ensures.rest c.released-self-inside.result c.released-self-inside.ensures slots
    ∙ ap (λ ks. map (slot_of (record (ended_book c.self.inside c.self.invariant c.args.client c.args.place
    c.index_mut-seat.result.now (at_end c) c.requires.numbered (walk_then c).0 (walk_then c).1
    c.end.new.self c.end.ensures.rest c.released-self-inside.result c.released-self-inside.ensures) {
      spares =
          ks;
    })) slots)
    (sym (spares_kept c.self.inside.seats.items c.args.place c.index_mut-seat.result.now c.end.new.self (at_end c)
    (ap (λ (s : Seat). s.spare) c.end.ensures.rest)))

pub returns-clause-spares : goal.returns-clause-spares
returns-clause-spares c = λ slots walk is all.
    over_spares (book_of c.self.inside) c.args.self.now _ slots c.self.view_is
    (spares_same {ks = spares_of (slice_set c.self.inside.seats.items c.args.place c.end.new.self)}
    (ended_spares c.self.inside c.self.invariant c.args.client c.args.place c.index_mut-seat.result.now (at_end c)
    c.requires.numbered walk (ap (λ (b : Book). get b.world.walks c.args.client) c.self.view_is ∙ is)
    c.end.new.self c.end.ensures.rest c.released-self-inside.result c.released-self-inside.ensures slots
    (subst (λ (b : Book). (inode : ℕ) → walks.marks walk inode ≡ true → is_lent b slots inode ≡ true)
    (sym c.self.view_is) all)))
