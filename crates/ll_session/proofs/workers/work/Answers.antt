use Rattle.std.proofs.Common.{arith, map, subst, sym}
use Rattle.std.specs.List.{All}
use Rattle.std.proofs.lemmas.List.Elements.{All-push}
use Rattle.ll_session.specs.Visit.{WasServed}
use Rattle.ll_session.proofs.workers.work.Goals as goal

pub loop-preserved : goal.loop-preserved
loop-preserved g c = record {
  room = omega (arith, c.push_reserved.ensures.capacity, c.loop.invariant.room);
  most = omega (arith, c.push_reserved.ensures.len, c.loop.invariant.most);
  served = subst (All (λ it. WasServed g.N.Shape.limit c.args.host.now.profile.now
      g.R.Read.remaining g.W.Write.contents it.outcome it.came.value it.went.value
      (map (λ c. c.rider) it.clients.items)))
      (sym c.push_reserved.ensures.items)
      (All-push (λ it. WasServed g.N.Shape.limit c.args.host.now.profile.now g.R.Read.remaining g.W.Write.contents
      it.outcome it.came.value it.went.value (map (λ c. c.rider) it.clients.items)) c.loop.room.items
      c.serve_stream-served.result.0 c.loop.invariant.served
      (c.serve_stream-served.result.1, c.serve_stream-served.ensures.served));
}
