use Rattle.std.proofs.Common.{ap, sym, subst, ◌∙◌}
use Rattle.ll_rights.specs.Map.{has}
use Rattle.ll_seq.specs.Stages.{is_crowded}
use Rattle.ll_seq.proofs.FactsKept.{Steps, both_steps, more_names, more_links, kept_name}
use Rattle.ll_seq.proofs.facts.NumberMap+Fact.name.Goals as goal

pub returns : goal.returns
returns c s at kept directory there node new room few =
    let steps = both_steps c.args.self.now c.add_name.new.self c.add_link.new.self (more_names c.args.directory)
    (more_links c.args.inode) c.add_name.ensures c.add_link.ensures in
    kept_name s c.args.self.now c.add_link.new.self at c.args.inode kept
    (subst (λ d. Steps c.args.self.now c.add_link.new.self (λ q x. more_links c.args.inode q (more_names d q x)))
    (sym directory) steps)
    (ap (has s.nodes) directory ∙ there) node new (ap (is_crowded s) directory ∙ room) few
