use Rattle.ll_client.specs.declared.account.Account.TheVariants.{Client}
use Rattle.ll_client.specs.Entries.{doing_of, part_of}
use Rattle.ll_client.proofs.hand.give_client.Given as goal

abbrev pub ghost-give_out : goal.ghost-give_out
ghost-give_out g a =
    Client (part_of a.from.now.journal.now.world a.from.now.number) a.from.now.seen
    (doing_of a.from.now.journal.now.world a.from.now.number)
