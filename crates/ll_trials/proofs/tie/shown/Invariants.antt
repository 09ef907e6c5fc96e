use Rattle.ll_trials.proofs.tie.shown.Given as goal

abbrev pub ghost-give_out : goal.ghost-give_out
ghost-give_out g a = a.from.now
