use Rattle.std.proofs.Common.{◌≡◌, ◌∙◌, ◌++◌, ◌∷◌, [], List, arith, refl, rules, subst, sym}
use Rattle.std.proofs.lemmas.Grind.{common_steps}
use Rattle.std.proofs.lemmas.List.{map-id}
use Rattle.std.proofs.lemmas.Iterator.Adapters.{YieldsList-from_vec}
use Rattle.std.proofs.lemmas.Iterator.Consumers.{YieldsList-end}
use Rattle.ll_seq.specs.declared.reply.Reply.{Reply}
use Rattle.ll_session.specs.CallsRun.{RepliedBeside}
use Rattle.ll_session.specs.declared.client_call.ClientCall.{ClientCall}
use Rattle.ll_session.proofs.CallsRuns.{one_more}
use Rattle.ll_session.proofs.shared.Shared.reply_all.Goals as goal

pub loop-made-init : goal.loop-made-init
loop-made-init g c = record {
  less = c.requires;
  goes = (let none : c.new-replies.result.items ≡ [] = search rules in
      subst (λ (rs : List Reply). RepliedBeside g.N.Shape.limit c.args.before c.args.self.now.party [] rs
      c.args.self.now.party) (sym none) refl);
}

pub loop-made-preserved : goal.loop-made-preserved
loop-made-preserved g c =
    let all : c.push.new.self.items ≡ c.loop-made.replies.items ++ c.reply_to-reply.result ∷ [] =
    grind (arith, common_steps) in
    record {
      less = omega (arith, c.reply_to-reply.ensures.count, c.loop-made.invariant.less);
      goes = subst (λ (rs : List Reply). RepliedBeside g.N.Shape.limit c.args.before c.args.self.now.party
          (c.loop-made.yielded ++ c.in-Some.made ∷ []) rs c.reply_to-reply.new.self.party) (sym all)
          (one_more g.N.Shape.limit c.args.before c.args.self.now.party c.loop-made.self.party
          c.reply_to-reply.new.self.party c.loop-made.yielded c.loop-made.replies.items c.in-Some.made
          c.reply_to-reply.result c.loop-made.invariant.goes c.reply_to-reply.ensures.answers);
    }

pub returns : goal.returns
returns g c =
    let all = YieldsList-from_vec c.args.calls.items c.into_iter-made-iterator.ensures.into_iter_gives.0
    (c.into_iter-made-iterator.ensures.into_iter_gives.1 ∙ c.args.calls.ok.0) in
    let end = YieldsList-end all c.loop-made.yielded c.loop-made.made-iterator c.loop-made.yielded_by c.next.result
    c.next.new.self c.in-None.is c.next.ensures.steps in
    subst (λ (calls : List ClientCall). RepliedBeside g.N.Shape.limit c.args.before c.args.self.now.party calls
    c.loop-made.replies.items c.loop-made.self.party) (sym (map-id c.loop-made.yielded) ∙ end.0)
    c.loop-made.invariant.goes
