use Rattle.std.proofs.Common.{ap, sym, subst, ◌∙◌, option_map, slice_get, IsSome}
use Rattle.ll_path.specs.Path.{Path}
use Rattle.ll_path.specs.Place.{IsPlace}
use Rattle.ll_journal.specs.Book as book
use Rattle.ll_journal.specs.declared.stage.Turn.TheVariants.{Trunk, First, Second}
use Rattle.ll_journal.specs.Seated.{gone_down, next_in}
use Rattle.ll_journal.proofs.Seats.{room_left, place_now, name_now, went_down, fit_below}
use Rattle.ll_journal.proofs.seat.Seat.descend.Goals as goal

pub go_down-requires-clause-short : goal.go_down-requires-clause-short
go_down-requires-clause-short c =
    room_left c.self.inside c.in-Some.call c.in-Some.is Trunk (sym c.in-Trunk.is ∙ c.turn_of.ensures)
    c.self.invariant.fit c.self.invariant.short
    (subst (λ (s : book.Seat). IsSome (next_in s)) (sym c.self.view_is) c.requires)

pub go_down-requires-clause-place : goal.go_down-requires-clause-place
go_down-requires-clause-place c =
    subst (λ (p : Path). IsPlace p c.self.inside.trunk.ahead.place) (sym c.first_path.ensures)
    (place_now c.self.inside c.in-Some.call c.in-Some.is Trunk (sym c.in-Trunk.is ∙ c.turn_of.ensures)
    c.self.invariant.fit c.self.invariant.short
    (subst (λ (s : book.Seat). IsSome (next_in s)) (sym c.self.view_is) c.requires))

pub go_down-requires-clause-name : goal.go_down-requires-clause-name
go_down-requires-clause-name c =
    subst (λ (p : Path). IsSome (slice_get p c.self.inside.trunk.ahead.place.depth)) (sym c.first_path.ensures)
    (name_now c.self.inside c.in-Some.call c.in-Some.is Trunk (sym c.in-Trunk.is ∙ c.turn_of.ensures)
    c.self.invariant.fit c.self.invariant.short
    (subst (λ (s : book.Seat). IsSome (next_in s)) (sym c.self.view_is) c.requires))

pub returns-in-Trunk : goal.returns-in-Trunk
returns-in-Trunk c =
    went_down c.self.inside c.in-Some.call c.in-Some.is Trunk (sym c.in-Trunk.is ∙ c.turn_of.ensures)
    c.self.invariant.fit c.self.invariant.short
    (subst (λ (s : book.Seat). IsSome (next_in s)) (sym c.self.view_is) c.requires) c.args.inode c.go_down.new.self
    c.go_down.ensures.stands.chain
    ∙ ap (λ (s : book.Seat). record s { walk = option_map (gone_down s.client.domain c.args.inode) s.walk })
    c.self.view_is

pub go_down-requires-in-First-clause-short : goal.go_down-requires-in-First-clause-short
go_down-requires-in-First-clause-short c =
    room_left c.self.inside c.in-Some.call c.in-Some.is First (sym c.in-First.is ∙ c.turn_of.ensures)
    c.self.invariant.fit c.self.invariant.short
    (subst (λ (s : book.Seat). IsSome (next_in s)) (sym c.self.view_is) c.requires)

pub go_down-requires-in-First-clause-place : goal.go_down-requires-in-First-clause-place
go_down-requires-in-First-clause-place c =
    subst (λ (p : Path). IsPlace p c.self.inside.first.ahead.place) (sym c.first_path-in-First.ensures)
    (place_now c.self.inside c.in-Some.call c.in-Some.is First (sym c.in-First.is ∙ c.turn_of.ensures)
    c.self.invariant.fit c.self.invariant.short
    (subst (λ (s : book.Seat). IsSome (next_in s)) (sym c.self.view_is) c.requires))

pub go_down-requires-in-First-clause-name : goal.go_down-requires-in-First-clause-name
go_down-requires-in-First-clause-name c =
    subst (λ (p : Path). IsSome (slice_get p c.self.inside.first.ahead.place.depth)) (sym c.first_path-in-First.ensures)
    (name_now c.self.inside c.in-Some.call c.in-Some.is First (sym c.in-First.is ∙ c.turn_of.ensures)
    c.self.invariant.fit c.self.invariant.short
    (subst (λ (s : book.Seat). IsSome (next_in s)) (sym c.self.view_is) c.requires))

pub returns-in-First : goal.returns-in-First
returns-in-First c =
    went_down c.self.inside c.in-Some.call c.in-Some.is First (sym c.in-First.is ∙ c.turn_of.ensures)
    c.self.invariant.fit c.self.invariant.short
    (subst (λ (s : book.Seat). IsSome (next_in s)) (sym c.self.view_is) c.requires) c.args.inode
    c.go_down-in-First.new.self c.go_down-in-First.ensures.stands.chain
    ∙ ap (λ (s : book.Seat). record s { walk = option_map (gone_down s.client.domain c.args.inode) s.walk })
    c.self.view_is

pub go_down-requires-in-Second-clause-short : goal.go_down-requires-in-Second-clause-short
go_down-requires-in-Second-clause-short c =
    room_left c.self.inside c.in-Some.call c.in-Some.is Second (sym c.in-Second.is ∙ c.turn_of.ensures)
    c.self.invariant.fit c.self.invariant.short
    (subst (λ (s : book.Seat). IsSome (next_in s)) (sym c.self.view_is) c.requires)

pub go_down-requires-in-Second-clause-place : goal.go_down-requires-in-Second-clause-place
go_down-requires-in-Second-clause-place c =
    subst (λ (p : Path). IsPlace p c.self.inside.second.ahead.place) (sym c.second_path.ensures)
    (place_now c.self.inside c.in-Some.call c.in-Some.is Second (sym c.in-Second.is ∙ c.turn_of.ensures)
    c.self.invariant.fit c.self.invariant.short
    (subst (λ (s : book.Seat). IsSome (next_in s)) (sym c.self.view_is) c.requires))

pub go_down-requires-in-Second-clause-name : goal.go_down-requires-in-Second-clause-name
go_down-requires-in-Second-clause-name c =
    subst (λ (p : Path). IsSome (slice_get p c.self.inside.second.ahead.place.depth)) (sym c.second_path.ensures)
    (name_now c.self.inside c.in-Some.call c.in-Some.is Second (sym c.in-Second.is ∙ c.turn_of.ensures)
    c.self.invariant.fit c.self.invariant.short
    (subst (λ (s : book.Seat). IsSome (next_in s)) (sym c.self.view_is) c.requires))

pub returns-in-Second : goal.returns-in-Second
returns-in-Second c =
    went_down c.self.inside c.in-Some.call c.in-Some.is Second (sym c.in-Second.is ∙ c.turn_of.ensures)
    c.self.invariant.fit c.self.invariant.short
    (subst (λ (s : book.Seat). IsSome (next_in s)) (sym c.self.view_is) c.requires) c.args.inode
    c.go_down-in-Second.new.self c.go_down-in-Second.ensures.stands.chain
    ∙ ap (λ (s : book.Seat). record s { walk = option_map (gone_down s.client.domain c.args.inode) s.walk })
    c.self.view_is

pub invariant_of-self : goal.invariant_of-self
invariant_of-self c = record {
  trunk = c.go_down.ensures.stands.roomy;
  first = c.self.invariant.first;
  second = c.self.invariant.second;
  short = c.self.invariant.short;
  fit = fit_below c.self.inside c.in-Some.call c.in-Some.is Trunk (sym c.in-Trunk.is ∙ c.turn_of.ensures)
      c.self.invariant.fit c.self.invariant.short
      (subst (λ (s : book.Seat). IsSome (next_in s)) (sym c.self.view_is) c.requires) c.args.inode c.go_down.new.self
      c.go_down.ensures.stands
      (subst (λ (p : Path). IsPlace p c.go_down.new.self.ahead.place) c.first_path.ensures c.go_down.ensures.place)
      c.go_down.ensures.depth c.go_down.ensures.len;
}

pub invariant_of-self-in-First : goal.invariant_of-self-in-First
invariant_of-self-in-First c = record {
  trunk = c.self.invariant.trunk;
  first = c.go_down-in-First.ensures.stands.roomy;
  second = c.self.invariant.second;
  short = c.self.invariant.short;
  fit = fit_below c.self.inside c.in-Some.call c.in-Some.is First (sym c.in-First.is ∙ c.turn_of.ensures)
      c.self.invariant.fit c.self.invariant.short
      (subst (λ (s : book.Seat). IsSome (next_in s)) (sym c.self.view_is) c.requires) c.args.inode
      c.go_down-in-First.new.self c.go_down-in-First.ensures.stands
      (subst (λ (p : Path). IsPlace p c.go_down-in-First.new.self.ahead.place) c.first_path-in-First.ensures
      c.go_down-in-First.ensures.place) c.go_down-in-First.ensures.depth c.go_down-in-First.ensures.len;
}

pub invariant_of-self-in-Second : goal.invariant_of-self-in-Second
invariant_of-self-in-Second c = record {
  trunk = c.self.invariant.trunk;
  first = c.self.invariant.first;
  second = c.go_down-in-Second.ensures.stands.roomy;
  short = c.self.invariant.short;
  fit = fit_below c.self.inside c.in-Some.call c.in-Some.is Second (sym c.in-Second.is ∙ c.turn_of.ensures)
      c.self.invariant.fit c.self.invariant.short
      (subst (λ (s : book.Seat). IsSome (next_in s)) (sym c.self.view_is) c.requires) c.args.inode
      c.go_down-in-Second.new.self c.go_down-in-Second.ensures.stands
      (subst (λ (p : Path). IsPlace p c.go_down-in-Second.new.self.ahead.place) c.second_path.ensures
      c.go_down-in-Second.ensures.place) c.go_down-in-Second.ensures.depth c.go_down-in-Second.ensures.len;
}
