use Rattle.std.proofs.Common.{sym, subst, ◌≡◌, ◌∙◌, false}
use Rattle.ll_journal.specs.Book as book
use Rattle.ll_journal.proofs.StaleWalks.{overtaken_seat, passed_by, passes_any}
use Rattle.ll_journal.proofs.seat.Seat.overtake.Goals as goal

pub returns-else-passes_any : goal.returns-else-passes_any
returns-else-passes_any c =
    subst (λ (s : book.Seat). s ≡ overtaken_seat c.args.moved.now s) c.self.view_is
    (passed_by c.self.inside c.args.moved.now
    (subst (λ (s : book.Seat). passes_any c.args.moved.now s ≡ false) (sym c.self.view_is) (sym c.passes_any.ensures
    ∙ c.if-passes_any.false)))
