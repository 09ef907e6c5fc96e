use Rattle.std.proofs.Common.{◌≡◌, ap, refl, sym, ◌∙◌, true, Option, None, Some, is_some}
use Rattle.ll_seq.specs.declared.call.Call.{Call}
use Rattle.ll_journal.specs.declared.stage.Turn.TheVariants.{First}
use Rattle.ll_journal.specs.Seated.{here_in}
use Rattle.ll_journal.proofs.Seats.{here_is}
use Rattle.ll_journal.proofs.seat.Seat.here.Goals as goal

under_way : (o : Option Call) → is_some o ≡ true → (call : Call) × (o ≡ Some call)
under_way None e = absurd (cc e)
under_way (Some call) e = (call, refl)

pub returns-in-First : goal.returns-in-First
returns-in-First c =
    let call = under_way c.self.inside.call c.if-is_none.ensures in
    ap Some c.here-in-First.ensures
    ∙ sym (here_is c.self.inside call.0 call.1 First (sym c.in-First.is ∙ c.turn_of.ensures) c.self.invariant.fit)
    ∙ ap here_in c.self.view_is
