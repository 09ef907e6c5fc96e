use Rattle.std.proofs.Common.{ap, subst, ◌∙◌}
use Rattle.std.specs.Prelude.{◌++◌, slice_set}
use Rattle.ll_rules.specs.Layer.{Layer}
use Rattle.ll_rules.specs.Rules.{rule_refusals, rule_limit}
use Rattle.ll_seq.specs.Fails.{Fails}
use Rattle.ll_seq.proofs.Results.{on_ok, if_err, fails, element, same_element}
use Rattle.ll_seq.proofs.client.Rulesets.allow.Goals as goal

pub returns-clause-ok : goal.returns-clause-ok
returns-clause-ok c =
    let there = element c.self.inside.made.items c.args.self.now c.args.number c.index_mut-made.result.now
    c.self.view_is c.requires c.index_mut-made.ensures.value in
    on_ok c.allow.result c.allow.ensures.ok (λ ok. (
      c.index_mut-made.result.now,
      there,
      ok.0,
      ap (λ ms. slice_set ms c.args.number c.allow.new.self) c.self.view_is
          ∙ ap (slice_set c.args.self.now c.args.number) ok.1,
    ))

pub returns-clause-refused : goal.returns-clause-refused
returns-clause-refused c =
    let there = element c.self.inside.made.items c.args.self.now c.args.number c.index_mut-made.result.now
    c.self.view_is c.requires c.index_mut-made.ensures.value in
    let told = fails (rule_refusals c.index_mut-made.result.now c.args.kind c.args.rights.0
    ++ rule_limit c.index_mut-made.result.now c.args.inode) c.allow.result c.allow.ensures.refused
    c.allow.ensures.starved in
    if_err c.allow.result told (λ errno why made also.
    subst (λ (m : Layer). Fails (rule_refusals m c.args.kind c.args.rights.0 ++ rule_limit m c.args.inode) errno)
    (same_element c.args.self.now c.args.number c.index_mut-made.result.now made there also) why)
