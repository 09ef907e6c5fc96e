use Rattle.ll_program.specs.Options.{learn_in}
use Rattle.ll_check.proofs.Courses.{not_given}
use Rattle.ll_check.proofs.trees.Trees.blank.Goals as goal

pub returns-in-Err-clause-failure : goal.returns-in-Err-clause-failure
returns-in-Err-clause-failure c =
    not_given (learn_in c.args.self.now.options.now) c.args.self.now.policy.now c.in-Err.failure c.in_memory.result
    c.in-Err.ensures.failure.0 c.in-Err.ensures.failure.1 c.in_memory.ensures.file c.in_memory.ensures.same
