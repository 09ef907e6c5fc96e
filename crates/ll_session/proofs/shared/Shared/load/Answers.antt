use Rattle.std.proofs.lemmas.Result.{IfErr-weaker, on_ok_weaker}
use Rattle.ll_session.specs.FirstClients.{coming_at, made}
use Rattle.ll_session.proofs.FirstComers.{loads_none, loads_some}
use Rattle.ll_session.proofs.shared.Shared.load.Goals as goal

pub returns-in-Some-clause-ok : goal.returns-in-Some-clause-ok
returns-in-Some-clause-ok g c = on_ok_weaker c.bring.result (λ h room.
    loads_some g.N.Shape.rules room g.N.Shape.limit c.args.self.now.party c.bring.new.self.party c.args.loader
    c.in-Some.calls made c.in-Some.is (h room)) c.bring.ensures.ok

pub returns-in-Some-clause-err : goal.returns-in-Some-clause-err
returns-in-Some-clause-err g c = IfErr-weaker c.bring.result _ _ (λ refusal h room.
    loads_some g.N.Shape.rules room g.N.Shape.limit c.args.self.now.party c.bring.new.self.party c.args.loader
    c.in-Some.calls (coming_at refusal) c.in-Some.is (h room)) c.bring.ensures.err

pub returns-in-None-clause-ok : goal.returns-in-None-clause-ok
returns-in-None-clause-ok g c room =
    loads_none g.N.Shape.rules room g.N.Shape.limit c.args.self.now.party c.args.loader c.in-None.is
