use Rattle.std.proofs.Common.{ap, sym, subst, ◌∙◌}
use Rattle.ll_rights.specs.Map.{has, insert}
use Rattle.ll_seq.specs.Stages.{has_many_names}
use Rattle.ll_seq.specs.Effects.{with_name}
use Rattle.ll_seq.specs.Facts.{AreKept}
use Rattle.ll_seq.proofs.FactsKept.{with_bare_node, kept_make}
use Rattle.ll_seq.proofs.facts.NumberMap+Fact.make.Goals as goal

pub returns-clause-ok : goal.returns-clause-ok
returns-clause-ok c s at kept next directory there new room =
    kept_make s c.args.self.now c.name.new.self c.args.kind at kept
    (λ bare in_it node few.
    subst (λ i. AreKept (with_name (with_bare_node s c.args.kind) at i) c.name.new.self) (sym next)
    (c.name.ensures (with_bare_node s c.args.kind) at
    (subst (AreKept (with_bare_node s c.args.kind))
    (ap (λ i. insert c.args.self.now i (record { kind = c.args.kind; names = 0; links = 0; opens = 0 })) next
    ∙ sym c.in_ok-add.ensures.ok) bare)
    directory (ap (has (with_bare_node s c.args.kind).nodes) (sym directory) ∙ in_it)
    (ap (has (with_bare_node s c.args.kind).nodes) (sym next) ∙ node) new room
    (ap (has_many_names (with_bare_node s c.args.kind)) (sym next) ∙ few)))
    (ap (has s.nodes) directory ∙ there)
