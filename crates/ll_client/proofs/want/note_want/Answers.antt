use Rattle.ll_client.specs.Entries.{starved_in}
use Rattle.ll_client.proofs.Starvation.{noted}
use Rattle.ll_client.proofs.want.note_want.Goals as goal

pub returns-then-ran_out-clause-all : goal.returns-then-ran_out-clause-all
returns-then-ran_out-clause-all g c =
    (noted g.later.0 c.args.number (starved_in c.args.wants.now) g.later.1 c.args.keeper.now c.take_pass.new.keeper
    c.give_out.new.keeper c.requires.1.1.0 c.take_pass.ensures.was c.take_pass.ensures.gone
    (c.requires.1.1.1.1 c.if-ran_out.true)
    c.give_out.ensures.came).all

pub returns-then-ran_out-clause-only : goal.returns-then-ran_out-clause-only
returns-then-ran_out-clause-only g c =
    (noted g.later.0 c.args.number (starved_in c.args.wants.now) g.later.1 c.args.keeper.now c.take_pass.new.keeper
    c.give_out.new.keeper c.requires.1.1.0 c.take_pass.ensures.was c.take_pass.ensures.gone
    (c.requires.1.1.1.1 c.if-ran_out.true)
    c.give_out.ensures.came).only
