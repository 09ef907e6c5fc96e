use Rattle.std.specs.Prelude.{◌&&◌, not}
use Rattle.std.proofs.Common.{ap, ◌∙◌, arith}
use Rattle.ll_rights.specs.Access.{holds}
use Rattle.ll_rules.specs.Layer.{grants_on}
use Rattle.ll_decide.proofs.Bits.{holds_all}
use Rattle.ll_why.proofs.Sets.{not_lacked}
use Rattle.ll_why.proofs.reason.mask_on.Goals as goal

pub returns : goal.returns
returns c = record {
  known = omega (arith, c.without.ensures.fewer);
  same = λ right known.
      let layer = c.args.layer.now in
      let inodes = c.args.inodes.now in
      c.without.ensures.rights right known
      ∙ ap (λ b. holds 0x7fff right && not b) (c.lacked.ensures.rights right known)
      ∙ not_lacked (holds 0x7fff right) (grants_on layer inodes right)
      ∙ ap (λ b. b && grants_on layer inodes right) (holds_all right known);
}
