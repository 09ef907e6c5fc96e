use Rattle.std.proofs.Common.{◌≡◌, ◌++◌, ◌∷◌, [], arith}
use Rattle.std.proofs.lemmas.Grind.{common_steps}
use Rattle.ll_check.proofs.StepLines.{test_given}
use Rattle.ll_check.proofs.steps.take_step.Goals as goal

pub returns-clause-ok : goal.returns-clause-ok
returns-clause-ok c =
    let test = c.in-Ok-Some.test in
    let more : c.push.new.self.items ≡ c.args.tests.now.items ++ test ∷ [] = grind (arith, common_steps) in
    test_given c.args.line.now c.body_of-body.result.now c.args.number c.args.tests.now.items c.push.new.self.items
    test c.body_of-body.ensures (rw c.in-Ok-Some.field-0-is at c.in-Ok-Some.ensures.some) more
