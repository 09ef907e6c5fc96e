use Rattle.std.specs.Prelude.{ℕ, List, refl}
use Rattle.std.proofs.Common.{sym, subst, ◌∙◌}
use Rattle.ll_decide.specs.Masks.{AreMasks}
use Rattle.ll_decide.proofs.Carried.{length-masks}
use Rattle.ll_why.specs.Reasons.{chain_of}
use Rattle.ll_why.proofs.reason.denial_of.Goals as goal

pub least_denial-requires-clause-other : goal.least_denial-requires-clause-other
least_denial-requires-clause-other c =
    length-masks c.masks_on-other.result c.args.domain.now c.deref-2.result.now c.masks_on-other.ensures
    ∙ sym (length-masks c.masks_on-itself.result c.args.domain.now c.deref.result.now c.masks_on-itself.ensures)

pub least_denial-requires-clause-parent : goal.least_denial-requires-clause-parent
least_denial-requires-clause-parent c =
    length-masks c.masks_on-parent.result c.args.domain.now c.deref-3.result.now c.masks_on-parent.ensures
    ∙ sym (length-masks c.masks_on-itself.result c.args.domain.now c.deref.result.now c.masks_on-itself.ensures)

pub least_denial-requires-clause-entered : goal.least_denial-requires-clause-entered
least_denial-requires-clause-entered c =
    length-masks c.masks_on-entered.result c.args.domain.now c.deref-4.result.now c.masks_on-entered.ensures
    ∙ sym (length-masks c.masks_on-itself.result c.args.domain.now c.deref.result.now c.masks_on-itself.ensures)

pub returns : goal.returns
returns c a m are_asks are_moves =
    let domain = c.args.domain.now in
    let asks = c.args.asks.now in
    c.least_denial.ensures.along_chains domain (chain_of asks) a m are_asks are_moves (record {
      itself = subst (λ (l : List ℕ). AreMasks c.masks_on-itself.result domain l) c.deref.ensures.value
          c.masks_on-itself.ensures;
      other = subst (λ (l : List ℕ). AreMasks c.masks_on-other.result domain l) c.deref-2.ensures.value
          c.masks_on-other.ensures;
      parent = subst (λ (l : List ℕ). AreMasks c.masks_on-parent.result domain l) c.deref-3.ensures.value
          c.masks_on-parent.ensures;
      left = refl;
      entered = subst (λ (l : List ℕ). AreMasks c.masks_on-entered.result domain l) c.deref-4.ensures.value
          c.masks_on-entered.ensures;
    })
