use Rattle.std.specs.Prelude.{ℕ, ◌≤◌, List, length}
use Rattle.std.proofs.Common.{ap, sym, subst, ◌∙◌}
use Rattle.ll_journal.specs.Book.{Book, has_mark}
use Rattle.ll_journal.specs.Kept.{book_of, seat_at, world_of}
use Rattle.ll_journal.specs.WalkEnds.{is_lent}
use Rattle.ll_journal.proofs.GatheredSlots.{Gathers}
use Rattle.ll_journal.proofs.StandingWalks.{few_stood, nobody_stands, stood_in}
use Rattle.ll_journal.proofs.Starts.{at_place}
use Rattle.ll_journal.proofs.journal.Journal.stands_in.Goals as goal

pub returns-in-None-clause-marked : goal.returns-in-None-clause-marked
returns-in-None-clause-marked c = λ inode.
    ap (λ (slots : List ℕ). is_lent c.args.self.now slots inode) c.new.ensures
    ∙ nobody_stands c.self.inside c.args.client (ap (λ xs. seat_at xs c.args.client) (sym c.deref.ensures.value)
    ∙ c.in-None.ensures.none) inode
    ∙ ap (λ (b : Book). has_mark b.world inode c.args.client) c.self.view_is

gathered : (c : goal.After-slots)
    → Gathers c.args.self.now c.slots.result (λ inode. has_mark c.args.self.now.world inode c.args.client)
gathered c =
    let at = at_place c.self.inside.seats.items c.deref.result.now c.args.client c.in-Some.place c.index.result.now
    c.deref.ensures.value c.in-Some.ensures.some c.index.ensures in
    subst (λ (b : Book). Gathers b c.slots.result (λ inode. has_mark b.world inode c.args.client)) c.self.view_is
    (subst (λ (slots : List ℕ). Gathers (book_of c.self.inside) slots
    (λ inode. has_mark (world_of c.self.inside) inode c.args.client)) (sym c.slots.ensures)
    (stood_in c.self.inside c.self.invariant c.args.client c.in-Some.place c.index.result.now at
    c.in-Some.ensures.some.0))

pub returns-in-Some-clause-marked : goal.returns-in-Some-clause-marked
returns-in-Some-clause-marked c = (gathered c).lent

pub returns-in-Some-clause-distinct : goal.returns-in-Some-clause-distinct
returns-in-Some-clause-distinct c = (gathered c).distinct

pub returns-in-Some-clause-within : goal.returns-in-Some-clause-within
returns-in-Some-clause-within c = (gathered c).within

pub returns-in-Some-clause-few : goal.returns-in-Some-clause-few
returns-in-Some-clause-few c =
    let at = at_place c.self.inside.seats.items c.deref.result.now c.args.client c.in-Some.place c.index.result.now
    c.deref.ensures.value c.in-Some.ensures.some c.index.ensures in
    subst (λ (slots : List ℕ). length slots ≤ 3) (sym c.slots.ensures)
    (few_stood c.self.inside c.self.invariant c.args.client c.in-Some.place c.index.result.now at
    c.in-Some.ensures.some.0)
