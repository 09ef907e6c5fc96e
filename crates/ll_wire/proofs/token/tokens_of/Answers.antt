use Rattle.std.proofs.Common.{arith, ◌∙◌, lit<}
use Rattle.std.proofs.lemmas.Iterator.Splits.{YieldsList-from_str_split}
use Rattle.std.proofs.lemmas.Iterator.Consumers.{YieldsList-turn, YieldsList-end}
use Rattle.ll_wire.proofs.token.tokens_of.Goals as goal

pub returns-then-count-tokens-clause-none : goal.returns-then-count-tokens-clause-none
returns-then-count-tokens-clause-none c =
    let t = YieldsList-turn (YieldsList-from_str_split 32 c.args.body.now (lit< tt) (cc) (cc) (cc)) c.loop-token.yielded
    _ c.loop-token.yielded_by _ _ c.in-Some.token c.in-Some.is c.next.ensures.steps in
    omega (arith, t.0)

pub returns-clause-found : goal.returns-clause-found
returns-clause-found c =
    let t = YieldsList-end (YieldsList-from_str_split 32 c.args.body.now (lit< tt) (cc) (cc) (cc)) c.loop-token.yielded
    _ c.loop-token.yielded_by _ _ c.in-None.is c.next.ensures.steps in
    (c.loop-token.invariant.fits, c.loop-token.invariant.tokens ∙ t.0)
