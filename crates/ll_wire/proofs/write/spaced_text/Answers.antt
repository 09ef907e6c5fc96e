use Rattle.ll_wire.proofs.Joined.{spaced_is}
use Rattle.ll_wire.proofs.write.spaced_text.Goals as goal

pub returns : goal.returns
returns c = spaced_is (λ t. t.now) c.args.first.now c.args.others.now _ _ c.loop-token-test.false c.loop-token.invariant
