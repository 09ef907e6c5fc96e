use Rattle.std.specs.Prelude.{◌&&◌, not}
use Rattle.std.proofs.Common.{ap, arith, sym, ◌∙◌, take, get_or}
use Rattle.std.proofs.lemmas.List.{take_more}
use Rattle.ll_rights.specs.Access.{holds}
use Rattle.ll_rules.specs.Layer.{grants_on, has_rule, restricts}
use Rattle.ll_rules.proofs.Grants.{grants_on-push}
use Rattle.ll_why.proofs.Sets.{not_granted, still_missing}
use Rattle.ll_why.proofs.grants.lacked.Goals as goal

pub loop-inode-init : goal.loop-inode-init
loop-inode-init c = record {
  fewer = c.restricted-missing.ensures.fewer;
  rights = λ right known. c.restricted-missing.ensures.rights right known
      ∙ not_granted (holds c.args.rights.0 right) (restricts c.args.layer.now right);
}

pub loop-inode-preserved : goal.loop-inode-preserved
loop-inode-preserved c =
    let layer = c.args.layer.now in
    let inodes = c.args.inodes.now in
    let set = c.args.rights.0 in
    let i = c.loop-inode.inode-index in
    let inode = get_or inodes i 0 in
    let before = take i inodes in
    let old = c.loop-inode.invariant in
    record {
      fewer = omega (arith, old.fewer, c.without-missing.ensures.fewer);
      rights = λ right known. c.without-missing.ensures.rights right known
          ∙ ap (λ b. b && not (holds c.rule_grants.result.0 right)) (old.rights right known)
          ∙ ap (λ b. (holds set right && not (grants_on layer before right)) && not b)
          (c.rule_grants.ensures.rights right known
          ∙ ap (λ b. b && has_rule layer right inode) (old.rights right known))
          ∙ still_missing (holds set right) (grants_on layer before right) (has_rule layer right inode)
          ∙ ap (λ b. holds set right && not b) (sym (grants_on-push layer before inode right))
          ∙ ap (λ l. holds set right && not (grants_on layer l right))
          (sym (take_more inodes i 0 c.loop-inode-test.true));
    }
