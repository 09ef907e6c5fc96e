use Rattle.ll_client.proofs.leave.leave_last.Given as goal

abbrev pub ghost-leave_with : goal.ghost-leave_with
ghost-leave_with g a = a.journal.now
