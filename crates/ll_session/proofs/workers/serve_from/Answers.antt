use Rattle.std.proofs.Common.{◌≤◌, arith, length, map}
use denote.Param.Send.{sendable}
use Rattle.std.specs.List.{All}
use Rattle.std.proofs.Crossing.{crosses}
use Rattle.ll_session.specs.Visit.{WasServed}
use Rattle.ll_session.proofs.Places.{left_by_all}
use Rattle.ll_session.proofs.Sent.{served_sent}
use Rattle.ll_session.proofs.workers.serve_from.Goals as goal

pub for_each_mut-requires-send-T : goal.for_each_mut-requires-send-T
for_each_mut-requires-send-T g c κs within = search (sendable, crosses, served_sent) depth 60

pub returns-clause-most : goal.returns-clause-most
returns-clause-most g c =
    left_by_all (λ room. length room.items ≤ c.args.most) c.for_each_mut.new.s c.in_ok-all.all.items
    (length c.as_mut_slice.result.now) c.for_each_mut.auto.s
    (λ k d below. let it = (c.for_each_mut.ensures k d below).1 in (it.after_call.now, it.left, it.call.0))
    c.in_ok-all.all.len (omega (arith, c.as_mut_slice.ensures.len))

pub returns-clause-served : goal.returns-clause-served
returns-clause-served g c =
    left_by_all (λ room. All (λ it. WasServed g.N.Shape.limit c.args.host.now.profile.now g.R.Read.remaining
    g.W.Write.contents it.outcome it.came.value it.went.value (map (λ c. c.rider) it.clients.items)) room.items)
    c.for_each_mut.new.s c.in_ok-all.all.items (length c.as_mut_slice.result.now) c.for_each_mut.auto.s
    (λ k d below. let it = (c.for_each_mut.ensures k d below).1 in (it.after_call.now, it.left, it.call.1))
    c.in_ok-all.all.len (omega (arith, c.as_mut_slice.ensures.len))
