use Rattle.std.proofs.Common.{arith}
use Rattle.ll_check.specs.Checks.{SpellsAt}
use Rattle.ll_check.proofs.Tests.{none_more}
use Rattle.ll_check.proofs.check_text.followed_test.Goals as goal

pub loop-place-preserved : goal.loop-place-preserved
loop-place-preserved c =
    none_more (SpellsAt c.args.body.now) c.loop-place.place c.loop-place.invariant
    (rw c.in_default.is at c.in_ok-found.ensures.none)

pub returns-clause-none : goal.returns-clause-none
returns-clause-none c = λ place test below. c.loop-place.invariant place test (omega arith)
