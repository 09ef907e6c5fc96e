use Rattle.ll_client.proofs.tie.Tie.give_out.Given as goal

abbrev pub ghost-show : goal.ghost-show
ghost-show g a = (a.number, g.value)
