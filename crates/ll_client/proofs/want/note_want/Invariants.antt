use Rattle.ll_client.specs.declared.account.Account.TheVariants.{Wants}
use Rattle.ll_client.proofs.want.note_want.Given as goal

abbrev pub ghost-give_out : goal.ghost-give_out
ghost-give_out g a = Wants g.later.1
