use Rattle.std.specs.Prelude.{[], ◌∷◌}
use Rattle.ll_decide.specs.Demands.{ask_on}
use Rattle.ll_decide.proofs.OneByOne.{not_when, when_so}
use Rattle.ll_decide.proofs.demands.Demands.ask_if.Goals as goal

pub returns-then-test-clause-asks : goal.returns-then-test-clause-asks
returns-then-test-clause-asks c asks are =
    when_so c.ask.result asks (ask_on c.args.on c.args.right ∷ []) c.args.test c.if-test.true
    (c.ask.ensures.asks asks are)

pub returns-else-test-clause-asks : goal.returns-else-test-clause-asks
returns-else-test-clause-asks c asks are =
    not_when c.args.self asks (ask_on c.args.on c.args.right ∷ []) c.args.test c.if-test.false are
