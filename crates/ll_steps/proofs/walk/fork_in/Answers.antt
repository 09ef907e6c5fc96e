use Rattle.ll_laws.specs.declared.step.Step.TheVariants.{Fork}
use Rattle.ll_steps.proofs.ContentsKept.{fork_keeps}
use Rattle.ll_steps.proofs.walk.fork_in.Goals as goal

pub returns-clause-kept : goal.returns-clause-kept
returns-clause-kept c = fork_keeps c.args.journal.now c.fork.new.self c.args.slots.now (Fork c.args.client)
    c.fork.result c.requires c.fork.ensures.not_astray c.fork.ensures.does c.fork.ensures.spares
