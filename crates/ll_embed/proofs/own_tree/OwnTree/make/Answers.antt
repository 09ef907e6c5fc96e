use Rattle.std.proofs.Common.{◌≡◌, ◌∙◌, ◌+◌, ◌∷◌, ap, arith, drop, length, subst, sym, refl, List, []}
use Rattle.std.proofs.lemmas.Iterator.Adapters.{YieldsList-from_vec}
use Rattle.std.proofs.lemmas.Iterator.Consumers.{YieldsList-turn, YieldsList-end}
use Rattle.std.proofs.lemmas.List.{drop_all, length-append}
use Rattle.ll_seq.specs.declared.call.Call.{Call}
use Rattle.ll_session.specs.FirstClients.{Makes, Stops}
use Rattle.ll_embed.specs.Alone.{own}
use Rattle.ll_embed.proofs.Owned.{makes_on, stops_here, stops_on}
use Rattle.ll_embed.proofs.own_tree.OwnTree.make.Goals as goal

pub loop-call-init : goal.loop-call-init
loop-call-init c = record {
  alone = c.requires.alone;
  clients = omega arith;
  makes = λ t rest. rest;
  made = refl;
  stops = λ number all reply t e rest.
      let same : number ≡ all = omega (arith, e) in
      subst (λ n. Stops c.args.client (own c.args.self.now) c.args.calls.items n reply t) same rest;
}

pub make_one-requires-clause-last : goal.make_one-requires-clause-last
make_one-requires-clause-last c = omega (arith, c.requires.last, c.loop-call.invariant.clients)

pub loop-call-preserved : goal.loop-call-preserved
loop-call-preserved c =
    let all = YieldsList-from_vec c.args.calls.items c.into_iter-call-iterator.ensures.into_iter_gives.0
    (c.into_iter-call-iterator.ensures.into_iter_gives.1 ∙ c.args.calls.ok.0) in
    let turn = YieldsList-turn all c.loop-call.yielded c.loop-call.call-iterator c.loop-call.yielded_by c.next.result
    c.next.new.self c.in-Some.call c.in-Some.is c.next.ensures.steps in
    let first = own c.args.self.now in
    let before = own c.loop-call.self in
    let after = own c.make_one.new.self in
    let made = c.in-Ok.ensures.ok in
    record {
      alone = c.make_one.ensures.before ∙ c.loop-call.invariant.alone;
      clients = omega (arith, c.make_one.ensures.clients, c.loop-call.invariant.clients);
      makes = makes_on c.args.client first before after c.args.calls.items c.loop-call.yielded c.in-Some.call made.0
          turn made.1 made.2 c.loop-call.invariant.makes;
      made = ap (λ n. n + 1) c.loop-call.invariant.made ∙ sym (length-append c.loop-call.yielded (c.in-Some.call ∷ []));
      stops = stops_on c.args.client first before after c.args.calls.items c.loop-call.yielded c.in-Some.call made.0
          turn made.1 made.2 c.loop-call.invariant.stops;
    }

pub returns-in-Err-clause-err : goal.returns-in-Err-clause-err
returns-in-Err-clause-err c =
    let all = YieldsList-from_vec c.args.calls.items c.into_iter-call-iterator.ensures.into_iter_gives.0
    (c.into_iter-call-iterator.ensures.into_iter_gives.1 ∙ c.args.calls.ok.0) in
    let turn = YieldsList-turn all c.loop-call.yielded c.loop-call.call-iterator c.loop-call.yielded_by c.next.result
    c.next.new.self c.in-Some.call c.in-Some.is c.next.ensures.steps in
    let made = c.in-Err.ensures.err in
    stops_here c.args.client (own c.args.self.now) (own c.loop-call.self) (own c.make_one.new.self) c.args.calls.items
    c.loop-call.yielded c.in-Some.call c.in-Err.reply turn made.0 (c.loop-call.made + 1)
    (ap (λ n. n + 1) c.loop-call.invariant.made) made.1 c.loop-call.invariant.stops

pub returns-in-Err-clause-alone : goal.returns-in-Err-clause-alone
returns-in-Err-clause-alone c = c.make_one.ensures.before ∙ c.loop-call.invariant.alone

pub returns-in-Err-clause-clients : goal.returns-in-Err-clause-clients
returns-in-Err-clause-clients c = omega (arith, c.make_one.ensures.clients, c.loop-call.invariant.clients)

pub returns-clause-ok : goal.returns-clause-ok
returns-clause-ok c =
    let all = YieldsList-from_vec c.args.calls.items c.into_iter-call-iterator.ensures.into_iter_gives.0
    (c.into_iter-call-iterator.ensures.into_iter_gives.1 ∙ c.args.calls.ok.0) in
    let end = YieldsList-end all c.loop-call.yielded c.loop-call.call-iterator c.loop-call.yielded_by c.next.result
    c.next.new.self c.in-None.is c.next.ensures.steps in
    let ended : drop (length c.loop-call.yielded) c.args.calls.items ≡ [] =
    drop_all (length c.loop-call.yielded) c.args.calls.items (omega (arith, end.1)) in
    c.loop-call.invariant.makes (own c.loop-call.self)
    (subst (λ (l : List Call). Makes c.args.client (own c.loop-call.self) l (own c.loop-call.self)) (sym ended) refl)
