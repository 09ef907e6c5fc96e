use Rattle.std.proofs.Common.{◌≡◌, ◌∙◌, ◌++◌, ◌∷◌, [], List, arith, refl, rules, subst, sym}
use Rattle.std.proofs.lemmas.Grind.{common_steps}
use Rattle.std.proofs.lemmas.List.{map-id}
use Rattle.std.proofs.lemmas.Iterator.Adapters.{YieldsList-from_vec}
use Rattle.std.proofs.lemmas.Iterator.Consumers.{YieldsList-end}
use Rattle.ll_seq.specs.declared.reply.Reply.{Reply}
use Rattle.ll_session.specs.CallsRun.{Replied}
use Rattle.ll_session.specs.declared.client_call.ClientCall.{ClientCall}
use Rattle.ll_embed.specs.Alone.{own}
use Rattle.ll_embed.proofs.Makings.{one_replied}
use Rattle.ll_embed.proofs.own_runner.reply_all.Goals as goal

pub loop-made-init : goal.loop-made-init
loop-made-init c = record {
  some = c.requires;
  goes = (let none : c.new-replies.result.items ≡ [] = search rules in
      subst (λ (rs : List Reply). Replied (own c.args.tree.now) [] rs (own c.args.tree.now)) (sym none) refl);
}

pub loop-made-preserved : goal.loop-made-preserved
loop-made-preserved c =
    let all : c.push.new.self.items ≡ c.loop-made.replies.items ++ c.in_ok-reply.reply ∷ [] =
    grind (arith, common_steps) in
    record {
      some = omega (arith, c.reply_to.ensures.clients, c.loop-made.invariant.some);
      goes = subst (λ (rs : List Reply). Replied (own c.args.tree.now) (c.loop-made.yielded ++ c.in-Some.made ∷ []) rs
          (own c.reply_to.new.self)) (sym all)
          (one_replied (own c.args.tree.now) (own c.loop-made.tree) (own c.reply_to.new.self) c.loop-made.yielded
          c.loop-made.replies.items c.in-Some.made c.in_ok-reply.reply c.loop-made.invariant.goes
          c.in_ok-reply.ensures.answers);
    }

pub returns : goal.returns
returns c =
    let all = YieldsList-from_vec c.args.calls.items c.into_iter-made-iterator.ensures.into_iter_gives.0
    (c.into_iter-made-iterator.ensures.into_iter_gives.1 ∙ c.args.calls.ok.0) in
    let end = YieldsList-end all c.loop-made.yielded c.loop-made.made-iterator c.loop-made.yielded_by c.next.result
    c.next.new.self c.in-None.is c.next.ensures.steps in
    subst (λ (calls : List ClientCall). Replied (own c.args.tree.now) calls c.loop-made.replies.items
    (own c.loop-made.tree)) (sym (map-id c.loop-made.yielded) ∙ end.0) c.loop-made.invariant.goes
