use Rattle.std.proofs.Common.{[], ◌∷◌, length, arith, ◌∙◌}
use Rattle.std.proofs.lemmas.Iterator.Adapters.{YieldsList-from_vec}
use Rattle.std.proofs.lemmas.Iterator.Consumers.{YieldsList-turn, YieldsList-end}
use Rattle.std.proofs.lemmas.List.{length-append}
use Rattle.ll_steps.proofs.AddedEntries.{ran_none, ran_on, ran_all}
use Rattle.ll_steps.proofs.world.World.run.Goals as goal

pub loop-step-init : goal.loop-step-init
loop-step-init c = record {
  room = c.in_ok-outcomes.ensures.exact ∙ c.len.ensures ∙ c.args.steps.ok.0;
  count = c.in_ok-outcomes.ensures.len;
  ran = ran_none c.args.self.now c.in_ok-outcomes.outcomes.items c.in_ok-outcomes.ensures.items;
}

pub push_reserved-requires : goal.push_reserved-requires
push_reserved-requires c =
    let all = YieldsList-from_vec c.args.steps.items c.into_iter-step-iterator.ensures.into_iter_gives.0
    (c.into_iter-step-iterator.ensures.into_iter_gives.1 ∙ c.args.steps.ok.0) in
    let turn = YieldsList-turn all c.loop-step.yielded c.loop-step.step-iterator c.loop-step.yielded_by c.next.result
    c.next.new.self c.in-Some.step c.in-Some.is c.next.ensures.steps in
    omega (arith, turn.0, c.loop-step.invariant.room, c.loop-step.invariant.count)

pub loop-step-preserved : goal.loop-step-preserved
loop-step-preserved c =
    let all = YieldsList-from_vec c.args.steps.items c.into_iter-step-iterator.ensures.into_iter_gives.0
    (c.into_iter-step-iterator.ensures.into_iter_gives.1 ∙ c.args.steps.ok.0) in
    let turn = YieldsList-turn all c.loop-step.yielded c.loop-step.step-iterator c.loop-step.yielded_by c.next.result
    c.next.new.self c.in-Some.step c.in-Some.is c.next.ensures.steps in
    record {
      room = c.push_reserved.ensures.capacity ∙ c.loop-step.invariant.room;
      count = let more = length-append c.loop-step.yielded (c.in-Some.step ∷ []) in
          omega (arith, c.push_reserved.ensures.len, c.loop-step.invariant.count, more);
      ran =
          ran_on c.args.self.now c.loop-step.self c.step.new.self c.args.steps.items c.loop-step.yielded
          c.loop-step.outcomes.items c.push_reserved.new.self.items c.in-Some.step c.step.result
          c.loop-step.invariant.ran turn c.push_reserved.ensures.items c.step.ensures.makes;
    }

pub returns-clause-ran : goal.returns-clause-ran
returns-clause-ran c =
    let all = YieldsList-from_vec c.args.steps.items c.into_iter-step-iterator.ensures.into_iter_gives.0
    (c.into_iter-step-iterator.ensures.into_iter_gives.1 ∙ c.args.steps.ok.0) in
    let end = YieldsList-end all c.loop-step.yielded c.loop-step.step-iterator c.loop-step.yielded_by c.next.result
    c.next.new.self c.in-None.is c.next.ensures.steps in
    ran_all c.args.self.now c.loop-step.self c.args.steps.items (length c.loop-step.yielded) c.loop-step.outcomes.items
    (omega (arith, end.1)) c.loop-step.invariant.ran c.by_law.ensures
