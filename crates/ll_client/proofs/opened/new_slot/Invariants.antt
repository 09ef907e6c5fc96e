use Rattle.ll_client.specs.declared.account.Account.TheVariants.{Slot}
use Rattle.ll_client.proofs.opened.new_slot.Given as goal

abbrev pub ghost-give_out : goal.ghost-give_out
ghost-give_out g a = Slot a.from.now
