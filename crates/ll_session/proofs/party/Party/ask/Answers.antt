use Rattle.std.proofs.Common.{sym, subst, arith, inl, inr}
use Rattle.ll_seq.specs.declared.call.Call.{Call}
use Rattle.ll_session.specs.Talk.{AsksFor}
use Rattle.ll_session.proofs.Lists.{asks_count, asks_for_count}
use Rattle.ll_session.proofs.party.Party.ask.Goals as goal

pub returns-in-Spawn : goal.returns-in-Spawn
returns-in-Spawn g c =
    let act = subst (λ (call : Call). AsksFor g.N.Shape.limit c.args.self.now c.args.place call c.spawn.result
    c.spawn.new.self) (sym c.in-Spawn.is) c.spawn.ensures in
    let same = asks_for_count g.N.Shape.limit c.args.self.now c.spawn.new.self c.args.place c.args.call c.spawn.result
    act in
    record { asks = act; count = same.0; most = same.1 }

pub returns-in_default : goal.returns-in_default
returns-in_default g c =
    let same = asks_count g.N.Shape.limit c.args.self.now c.call.new.self c.args.place c.args.call c.call.ensures.0
    c.call.ensures.1 in
    record {
      asks = inr c.call.ensures;
      count = omega (arith, same);
      most = omega (arith, same);
    }
