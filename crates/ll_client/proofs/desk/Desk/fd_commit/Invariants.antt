use Rattle.ll_client.proofs.desk.Desk.fd_commit.Given as goal

abbrev pub ghost-step_on_file : goal.ghost-step_on_file
ghost-step_on_file g a = (a.journal.now, a.call)
