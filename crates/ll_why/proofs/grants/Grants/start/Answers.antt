use Rattle.std.specs.Prelude.{◌≡◌, ◌&&◌, ℕ, [], Some, length, not, slice_get, zero, suc}
use Rattle.std.proofs.Common.{ap, sym, ◌∙◌}
use Rattle.ll_rights.specs.Access.{holds}
use Rattle.ll_rules.specs.Layer.{restricts}
use Rattle.ll_why.specs.declared.grants.Ruled.{Ruled}
use Rattle.ll_why.proofs.Sets.{none_free, not_granted}
use Rattle.ll_why.proofs.grants.Grants.start.Goals as goal

none : (place : ℕ) (r : Ruled) → slice_get {X = Ruled} [] place ≡ Some r → ⊥
none zero r e = absurd (cc e)
none (suc place) r e = absurd (cc e)

pub returns : goal.returns
returns c =
    let set = c.args.rights.0 in
    let layer = c.args.layer.now in
    record {
      fewer = (c.without.ensures.fewer, c.restricted-asked.ensures.fewer);
      free = λ right known.
          c.without.ensures.rights right known
          ∙ ap (λ b. holds set right && not b) (c.restricted-asked.ensures.rights right known)
          ∙ none_free (holds set right) (restricts layer right);
      missing = λ right known.
          c.restricted-asked.ensures.rights right known ∙ not_granted (holds set right) (restricts layer right);
      places = ap length c.new.ensures.items;
      ruled = λ place r e. absurd (none place r (ap (λ l. slice_get l place) (sym c.new.ensures.items) ∙ e));
    }
