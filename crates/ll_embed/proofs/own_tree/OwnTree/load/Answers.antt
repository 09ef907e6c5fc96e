use Rattle.std.proofs.lemmas.Result.{IfErr-weaker, on_ok_weaker}
use Rattle.ll_session.specs.FirstClients.{coming_at, made}
use Rattle.ll_embed.specs.Alone.{own}
use Rattle.ll_embed.proofs.Owned.{loads_none, loads_some}
use Rattle.ll_embed.proofs.own_tree.OwnTree.load.Goals as goal

pub returns-in-Some-clause-ok : goal.returns-in-Some-clause-ok
returns-in-Some-clause-ok c = on_ok_weaker c.bring.result (λ came.
    loads_some (own c.args.self.now) c.args.loader c.in-Some.calls (made (own c.bring.new.self)) c.in-Some.is came)
    c.bring.ensures.ok

pub returns-in-Some-clause-err : goal.returns-in-Some-clause-err
returns-in-Some-clause-err c = IfErr-weaker c.bring.result _ _ (λ refusal came.
    loads_some (own c.args.self.now) c.args.loader c.in-Some.calls (coming_at refusal (own c.bring.new.self))
    c.in-Some.is came) c.bring.ensures.err

pub returns-in-None-clause-ok : goal.returns-in-None-clause-ok
returns-in-None-clause-ok c = loads_none (own c.args.self.now) c.args.loader c.in-None.is
