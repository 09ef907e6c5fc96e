use Rattle.std.proofs.Common.{◌≡◌, subst, option_map}
use Rattle.ll_journal.specs.Book as book
use Rattle.ll_journal.specs.declared.stage.Stage.TheVariants as stage
use Rattle.ll_journal.specs.Seated.{entered, seat_of}
use Rattle.ll_journal.proofs.Seats.{entered_is}
use Rattle.ll_journal.proofs.seat.Seat.enter.Goals as goal

pub returns : goal.returns
returns c =
    subst (λ (s : book.Seat). seat_of (record c.self.inside { stage = stage.Down; trunk = c.start.new.self })
    ≡ record s { walk = option_map (entered s.client.domain) s.walk }) c.self.view_is
    (entered_is c.self.inside c.start.new.self c.start.ensures.stands)
