use Rattle.std.proofs.Common.{arith, subst, sym}
use Rattle.std.proofs.lemmas.Result.{on_ok_weaker}
use Rattle.ll_session.specs.Between.{Leads}
use Rattle.ll_session.specs.FirstClients.{Comes, Makes, Stops, coming_at}
use Rattle.ll_session.specs.declared.refusal.Refusal.{Refusal}
use Rattle.ll_session.proofs.FirstComers.{comes_not, comes_then, comes_unmade, if_err_both, makes_so, stops_so}
use Rattle.ll_session.proofs.shared.Shared.bring.Goals as goal

pub make_calls-requires-clause-caller : goal.make_calls-requires-clause-caller
make_calls-requires-clause-caller g c = omega (arith, c.len-before.ensures, c.in-Ok.ensures.came)

pub returns-in-Err-clause-err : goal.returns-in-Err-clause-err
returns-in-Err-clause-err g c room =
    subst (λ (r : Refusal). Leads g.N.Shape.rules room g.N.Shape.limit c.args.self.now.party c.join.new.self
    (λ s t. Comes s c.args.calls.items (coming_at r t))) (sym c.at_connect.ensures)
    (comes_not g.N.Shape.rules room g.N.Shape.limit c.args.self.now.party c.join.new.self c.args.calls.items
    c.in-Err.errno (c.in-Err.ensures.err room))

pub returns-clause-ok : goal.returns-clause-ok
returns-clause-ok g c = on_ok_weaker c.make_calls.result (λ h room.
    comes_then g.N.Shape.rules room g.N.Shape.limit c.args.self.now.party c.join.new.self c.make_calls.new.party
    c.len-before.result (λ n s t. Makes n s c.args.calls.items t) c.len-before.ensures (c.in-Ok.ensures.ok room)
    (makes_so g.N.Shape.rules room g.N.Shape.limit c.len-before.result c.join.new.self c.make_calls.new.party
    c.args.calls.items (omega (arith, c.len-before.ensures, c.in-Ok.ensures.came)) h)) c.make_calls.ensures.ok

pub returns-clause-err : goal.returns-clause-err
returns-clause-err g c = if_err_both c.make_calls.result _ _ _ (λ refusal h some room.
    comes_unmade g.N.Shape.rules room g.N.Shape.limit c.args.self.now.party c.make_calls.new.party c.args.calls.items
    refusal some
    (comes_then g.N.Shape.rules room g.N.Shape.limit c.args.self.now.party c.join.new.self c.make_calls.new.party
    c.len-before.result (λ n s t. Stops n s c.args.calls.items refusal.calls refusal.reply t) c.len-before.ensures
    (c.in-Ok.ensures.ok room)
    (stops_so g.N.Shape.rules room g.N.Shape.limit c.len-before.result c.join.new.self c.make_calls.new.party
    c.args.calls.items refusal.calls refusal.reply (omega (arith, c.len-before.ensures, c.in-Ok.ensures.came)) h)))
    c.make_calls.ensures.err c.make_calls.ensures.some
