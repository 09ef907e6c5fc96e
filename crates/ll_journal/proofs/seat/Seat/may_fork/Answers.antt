use Rattle.std.proofs.Common.{ap, sym, ◌∙◌, false, is_some}
use Rattle.std.specs.Option.{option_map_or}
use Rattle.ll_laws.specs.Walk.{Walk, forked}
use Rattle.ll_journal.specs.Book as book
use Rattle.ll_journal.proofs.SeatForks.{may_fork_is}
use Rattle.ll_journal.proofs.seat.Seat.may_fork.Goals as goal

pub returns-then-has_two_paths : goal.returns-then-has_two_paths
returns-then-has_two_paths c =
    c.is_at_end.ensures
    ∙ may_fork_is c.self.inside c.in-Some.call c.in-Some.is c.in-Down.is (sym c.has_two_paths.ensures
    ∙ c.if-has_two_paths.true) c.self.invariant.fit
    ∙ ap (λ (s : book.Seat). option_map_or (λ (walk : Walk). is_some (forked walk.call walk.at)) s.walk false)
    c.self.view_is
