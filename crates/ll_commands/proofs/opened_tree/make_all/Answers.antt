use Rattle.std.proofs.Common.{◌≡◌, ◌≢◌, ◌+◌, ℕ, List, ◌∷◌, ap, drop, refl, sym, subst, arith, inl, inr}
use Rattle.ll_decide.proofs.FirstDenial.{at_element}
use Rattle.ll_seq.specs.declared.call.Call.{Call}
use Rattle.ll_rights.specs.declared.errno.Errno.TheVariants.{NoMemory}
use Rattle.ll_seq.specs.declared.reply.Reply.{Reply}
use Rattle.ll_seq.specs.declared.reply.Reply.TheVariants.{Refused}
use Rattle.ll_session.specs.declared.refusal.Refusal.{Refusal}
use Rattle.ll_commands.specs.OpenedTree.{Makes, Stops, refused_by}
use Rattle.ll_commands.proofs.Rows.{fails_so}
use Rattle.ll_commands.proofs.opened_tree.make_all.Goals as goal

pub loop-call-preserved : goal.loop-call-preserved
loop-call-preserved c =
    let calls = c.args.calls.now in
    let i = c.loop-call.call-index in
    let split : drop i calls ≡ c.call-item.result ∷ drop (i + 1) calls =
    at_element calls i c.call-item.result c.loop-call-test.true c.call-item.is in
    let inv = c.loop-call.invariant in
    record {
      there = c.make_one.ensures.there;
      next = omega (arith, c.make_one.ensures.numbers, inv.next);
      makes = λ t rest. inv.makes t (subst (λ (l : List Call). Makes c.args.client c.loop-call.tree l t) (sym split)
          (c.make_one.new.tree, c.in-Ok.ensures.ok, rest));
      made = ap (λ n. n + 1) inv.made;
      stops = λ before all reply e rest. inv.stops (before + 1) all reply (omega (arith, e))
          (subst (λ (l : List Call). Stops c.args.client c.loop-call.tree l (before + 1) reply) (sym split)
          (inr (c.make_one.new.tree, c.in-Ok.ensures.ok, before, refl, rest)));
    }

pub returns-in-Err-clause-failure : goal.returns-in-Err-clause-failure
returns-in-Err-clause-failure c =
    let calls = c.args.calls.now in
    let i = c.loop-call.call-index in
    let split : drop i calls ≡ c.call-item.result ∷ drop (i + 1) calls =
    at_element calls i c.call-item.result c.loop-call-test.true c.call-item.is in
    let inv = c.loop-call.invariant in
    fails_so (λ refusal. (c.in-Err.reply ≢ Refused NoMemory)
    × (refusal ≡ refused_by c.args.opener (c.loop-call.made + 1) c.in-Err.reply))
    (λ refusal. (refusal.opener ≡ c.args.opener) × (before : ℕ) × (refusal.calls ≡ before + 1)
    × Stops c.args.client c.args.tree.now calls before refusal.reply) c.failure_of.result
    (λ refusal h. let is = h.1 in (
      ap (λ (r : Refusal). r.opener) is,
      c.loop-call.made,
      ap (λ (r : Refusal). r.calls) is,
      subst (λ (told : Reply). Stops c.args.client c.args.tree.now calls c.loop-call.made told)
          (sym (ap (λ (r : Refusal). r.reply) is)) (inv.stops 0 c.loop-call.made c.in-Err.reply
          (let made = inv.made in omega (arith, made))
          (subst (λ (l : List Call). Stops c.args.client c.loop-call.tree l 0 c.in-Err.reply) (sym split)
          (inl (refl, c.in-Err.ensures.refused h.0)))),
    )) c.failure_of.ensures
