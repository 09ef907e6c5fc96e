use Rattle.std.proofs.Common.{◌≡◌, ◌+◌, List, ◌∷◌, drop, sym, subst, arith}
use Rattle.ll_decide.proofs.FirstDenial.{at_element}
use Rattle.ll_seq.specs.declared.call.Call.{Call}
use Rattle.ll_seq.specs.State.{State}
use Rattle.ll_commands.specs.Why.{Follows}
use Rattle.ll_commands.proofs.commands.make_in_turn.Goals as goal

pub loop-call-preserved : goal.loop-call-preserved
loop-call-preserved c =
    let calls = c.args.calls.now in
    let i = c.loop-call.call-index in
    let split : drop i calls ≡ c.call-item.result ∷ drop (i + 1) calls =
    at_element calls i c.call-item.result c.loop-call-test.true c.call-item.is in
    let inv = c.loop-call.invariant in
    let one = c.in_ok-make_next.ensures.follows in
    record {
      there = c.make_next.ensures.there;
      next = omega (arith, c.make_next.ensures.numbers, inv.next);
      follows = λ t rest. inv.follows t (subst (λ (l : List Call). Follows c.args.client c.loop-call.tree l t)
          (sym split) (one.0, one.1, subst (λ (s : State). Follows c.args.client s (drop (i + 1) calls) t) one.2 rest));
    }
