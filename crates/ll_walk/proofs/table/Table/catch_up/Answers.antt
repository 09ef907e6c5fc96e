use Rattle.std.proofs.Common.{ap, sym, ◌∙◌}
use Rattle.ll_client.specs.Entries.{Knows}
use Rattle.ll_walk.proofs.table.Table.catch_up.Goals as goal

pub returns-clause-mine : goal.returns-clause-mine
returns-clause-mine g c =
    c.catch_up.ensures.mine ∙ (λ i. record c.args.me.now.rider {
      seen = sym (ap (λ (k : Knows). k.seen) c.catch_up.ensures.mine) i;
    })
