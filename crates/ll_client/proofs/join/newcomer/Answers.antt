use Rattle.std.proofs.Common.{ap, ◌∙◌}
use Rattle.ll_client.specs.Entries.{doing_in, knows, part_in, starved_in}
use Rattle.ll_client.proofs.join.newcomer.Goals as goal

pub give_wants-wants-requires-clause-free : goal.give_wants-wants-requires-clause-free
give_wants-wants-requires-clause-free g c = c.give_client-pass.ensures.wants ∙ c.requires.came.sated

pub returns-clause-client : goal.returns-clause-client
returns-clause-client g c =
    λ i. knows c.args.number (part_in (c.give_client-pass.ensures.pass i))
    (starved_in (c.give_wants-wants.ensures.pass i)) c.args.seen
    ((ap doing_in c.give_client-pass.ensures.pass ∙ c.requires.came.idle) i)

pub returns-clause-others : goal.returns-clause-others
returns-clause-others g c d other =
    c.give_wants-wants.ensures.only.clients d ∙ c.give_client-pass.ensures.others d other
