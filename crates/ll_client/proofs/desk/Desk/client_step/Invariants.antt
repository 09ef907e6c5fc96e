use Rattle.ll_client.proofs.desk.Desk.client_step.Given as goal

abbrev pub ghost-step_alone : goal.ghost-step_alone
ghost-step_alone g a = (a.journal.now, a.call)
