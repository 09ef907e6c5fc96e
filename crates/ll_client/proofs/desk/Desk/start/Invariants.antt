use Rattle.ll_client.proofs.desk.Desk.start.Given as goal

abbrev pub ghost-start_call : goal.ghost-start_call
ghost-start_call g a = (a.journal.now, a.call)
