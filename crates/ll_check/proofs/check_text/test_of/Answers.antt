use Rattle.ll_check.proofs.Tests.{no_test}
use Rattle.ll_check.proofs.check_text.test_of.Goals as goal

pub returns-in-None-clause-none : goal.returns-in-None-clause-none
returns-in-None-clause-none c =
    no_test c.args.body.now (rw c.in-None.is at c.in_ok-call.ensures)
    (rw c.in_default.is at c.in_ok-followed.ensures.none)
