use Rattle.ll_program.proofs.policy.calls_of.Goals as goal

pub returns-in-Ok-None-clause-calls : goal.returns-in-Ok-None-clause-calls
returns-in-Ok-None-clause-calls c = tt
