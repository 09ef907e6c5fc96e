use Rattle.std.proofs.Common.{◌∙◌}
use Rattle.ll_decide.proofs.Sets.{by_masks-verdict, verdict-same}
use Rattle.ll_decide.proofs.judge.least_denial.Goals as goal

pub returns-clause-by_masks : goal.returns-clause-by_masks
returns-clause-by_masks c asks moves are move =
    c.least.ensures ∙ by_masks-verdict c.args.granted.now c.args.demands.now asks moves are move

pub returns-clause-along_chains : goal.returns-clause-along_chains
returns-clause-along_chains c domain chain asks moves are move granted =
    c.least.ensures ∙ by_masks-verdict c.args.granted.now c.args.demands.now asks moves are move
    ∙ verdict-same domain chain c.args.granted.now granted asks moves
