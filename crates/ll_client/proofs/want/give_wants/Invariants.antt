use Rattle.std.specs.Prelude.{[]}
use Rattle.ll_client.specs.declared.account.Account.TheVariants.{Wants}
use Rattle.ll_client.proofs.want.give_wants.Given as goal

abbrev pub ghost-give_out : goal.ghost-give_out
ghost-give_out g a = Wants []
