use Rattle.std.specs.Prelude.{ℕ, ◌&&◌, List, not}
use Rattle.std.proofs.Common.{subst, ◌∙◌}
use Rattle.ll_rights.specs.Access.{holds}
use Rattle.ll_rules.specs.Layer.{grants_on}
use Rattle.ll_decide.specs.Demands.{set_on}
use Rattle.ll_decide.specs.declared.demands.On.TheVariants.{Itself, Other, Parent, Left, Entered}
use Rattle.ll_why.specs.Grants.{AreGrants}
use Rattle.ll_why.specs.Reasons.{chain_of, grants_in}
use Rattle.ll_why.specs.declared.reason.LayerReason.{LayerReason}
use Rattle.ll_why.proofs.reason.LayerReason.of_layer.Goals as goal

pub returns : goal.returns
returns c =
    let asks = c.args.asks.now in
    let layer = c.args.layer.now in
    let d = asks.demands in
    let told : LayerReason = record {
      itself = c.in_ok-on_itself.on_itself;
      other = c.in_ok-on_other.on_other;
      parent = c.in_ok-on_parent.on_parent;
      left = c.in_ok-on_left.on_left;
      entered = c.in_ok-on_entered.on_entered;
      there = c.gained-there.result;
      back = c.gained-back.result;
    } in
    let itself = c.as_slice-itself.ensures.value in
    let other = c.as_slice-other.ensures.value in
    let parent = c.as_slice-parent.ensures.value in
    let entered = c.as_slice-entered.ensures.value in
    record {
      grants = λ on. elim on as (λ on. AreGrants layer (chain_of asks on) (set_on d on) (grants_in told on)) [
        | Itself ↦ subst (λ (l : List ℕ). AreGrants layer l d.itself.0 told.itself) itself c.in_ok-on_itself.ensures
        | Other ↦ subst (λ (l : List ℕ). AreGrants layer l d.other.0 told.other) other c.in_ok-on_other.ensures
        | Parent ↦ subst (λ (l : List ℕ). AreGrants layer l d.parent.0 told.parent) parent c.in_ok-on_parent.ensures
        | Left ↦ subst (λ (l : List ℕ). AreGrants layer l d.left.0 told.left) parent c.in_ok-on_left.ensures
        | Entered ↦ subst (λ (l : List ℕ). AreGrants layer l d.entered.0 told.entered) entered
            c.in_ok-on_entered.ensures
      ];
      fewer = (c.gained-there.ensures.fewer, c.gained-back.ensures.fewer);
      there = λ right known. c.gained-there.ensures.rights right known
          ∙ (λ i. holds d.there.0 right && grants_on layer (entered i) right && not (grants_on layer (itself i) right));
      back = λ right known. c.gained-back.ensures.rights right known
          ∙ (λ i. holds d.back.0 right && grants_on layer (parent i) right && not (grants_on layer (other i) right));
    }
