use Rattle.std.proofs.Common.{◌∙◌, ◌+◌, ◌∷◌, [], ap, arith, length, refl, sym}
use Rattle.std.proofs.lemmas.List.{length-append}
use Rattle.std.proofs.lemmas.Iterator.Adapters.{YieldsList-from_vec}
use Rattle.std.proofs.lemmas.Iterator.Consumers.{YieldsList-turn, YieldsList-end}
use Rattle.ll_session.proofs.FirstComers.{makes_all, makes_none, makes_one, next_call, stops_here}
use Rattle.ll_session.proofs.calls.make_calls.Goals as goal

pub loop-call-init : goal.loop-call-init
loop-call-init g c = record {
  made = refl;
  more = omega arith;
  goes = makes_none g.N.Shape.limit c.args.place c.args.calls.items c.args.party.now;
}

pub ask-requires-clause-place : goal.ask-requires-clause-place
ask-requires-clause-place g c = omega (arith, c.requires.caller, c.loop-call.invariant.more)

pub loop-call-preserved : goal.loop-call-preserved
loop-call-preserved g c =
    let all = YieldsList-from_vec c.args.calls.items c.into_iter-call-iterator.ensures.into_iter_gives.0
    (c.into_iter-call-iterator.ensures.into_iter_gives.1 ∙ c.args.calls.ok.0) in
    let turn = YieldsList-turn all c.loop-call.yielded c.loop-call.call-iterator c.loop-call.yielded_by c.next.result
    c.next.new.self c.in-Some.call c.in-Some.is c.next.ensures.steps in
    record {
      made = ap (λ n. n + 1) c.loop-call.invariant.made ∙ sym (length-append c.loop-call.yielded (c.in-Some.call ∷ []));
      more = omega (arith, c.ask.ensures.count, c.loop-call.invariant.more);
      goes = makes_one g.N.Shape.limit c.args.place c.args.calls.items c.args.party.now c.loop-call.party c.ask.new.self
          c.loop-call.yielded c.in-Some.call c.ask.result c.loop-call.invariant.goes c.ask.ensures.asks
          (next_call c.args.calls.items c.loop-call.yielded c.in-Some.call turn) c.in-Ok.ensures.ok;
    }

pub returns-in-Err-clause-err : goal.returns-in-Err-clause-err
returns-in-Err-clause-err g c =
    let all = YieldsList-from_vec c.args.calls.items c.into_iter-call-iterator.ensures.into_iter_gives.0
    (c.into_iter-call-iterator.ensures.into_iter_gives.1 ∙ c.args.calls.ok.0) in
    let turn = YieldsList-turn all c.loop-call.yielded c.loop-call.call-iterator c.loop-call.yielded_by c.next.result
    c.next.new.self c.in-Some.call c.in-Some.is c.next.ensures.steps in
    stops_here g.N.Shape.limit c.args.place c.args.calls.items c.args.party.now c.loop-call.party c.ask.new.self
    c.loop-call.yielded c.in-Some.call c.ask.result c.loop-call.invariant.goes c.ask.ensures.asks
    (next_call c.args.calls.items c.loop-call.yielded c.in-Some.call turn) (c.loop-call.made + 1) c.in-Err.reply
    (ap (λ n. n + 1) c.loop-call.invariant.made) c.in-Err.ensures.err

pub returns-in-Err-clause-count : goal.returns-in-Err-clause-count
returns-in-Err-clause-count g c = omega (arith, c.ask.ensures.count, c.loop-call.invariant.more)

pub returns-clause-ok : goal.returns-clause-ok
returns-clause-ok g c =
    let all = YieldsList-from_vec c.args.calls.items c.into_iter-call-iterator.ensures.into_iter_gives.0
    (c.into_iter-call-iterator.ensures.into_iter_gives.1 ∙ c.args.calls.ok.0) in
    let end = YieldsList-end all c.loop-call.yielded c.loop-call.call-iterator c.loop-call.yielded_by c.next.result
    c.next.new.self c.in-None.is c.next.ensures.steps in
    makes_all g.N.Shape.limit c.args.place c.args.calls.items c.args.party.now c.loop-call.party
    (length c.loop-call.yielded) (omega (arith, end.1)) c.loop-call.invariant.goes

pub returns-clause-count : goal.returns-clause-count
returns-clause-count g c = c.loop-call.invariant.more
