use Rattle.std.specs.Prelude.{◌≡◌, Bool, ◌&&◌, ◌||◌}
use Rattle.std.proofs.Common.{ap, ◌∙◌}
use Rattle.ll_rights.specs.Access.{holds}
use Rattle.ll_decide.specs.declared.demands.On.{On}
use Rattle.ll_decide.specs.declared.demands.On.TheVariants.{Itself, Other, Parent, Left, Entered}
use Rattle.ll_why.specs.Places.{is_among, is_reached, leads, set_in}
use Rattle.ll_why.specs.declared.asks.Asks.{Asks}
use Rattle.ll_why.specs.declared.places.Places.{Places}
use Rattle.ll_why.specs.declared.places.Sets.{Sets}
use Rattle.ll_why.proofs.places.Ways.added.Goals as goal

reached : (asks : Asks) (places ways : Places) (chosen : On → Bool) (on : On)
    → ((from : On) → is_among places from ≡ chosen from) → ((from : On) → is_among ways from ≡ leads asks from on)
    → (places.itself && ways.itself || places.other && ways.other || places.entered && ways.entered
    || places.parent && ways.parent) ≡ is_reached asks chosen on
reached asks places ways chosen on same leading = λ i.
    same Itself i && leading Itself i || same Other i && leading Other i || same Entered i && leading Entered i
    || same Parent i && leading Parent i

pub returns : goal.returns
returns c asks chosen are same on right known =
    let granted = c.args.granted in
    let places = c.args.places in
    let ways = c.args.self in
    let after : Sets = record {
      itself = c.all_if.result;
      other = c.all_if-2.result;
      entered = c.all_if-3.result;
      parent = c.all_if-4.result;
    } in
    elim on as (λ on. holds (set_in after on) right ≡ (holds (set_in granted on) right || is_reached asks chosen on)) [
      | Itself ↦ c.all_if.ensures right known ∙ ap (λ b. holds granted.itself.0 right || b)
          (c.meet.ensures ∙ reached asks places ways.itself chosen Itself same are.itself)
      | Other ↦ c.all_if-2.ensures right known ∙ ap (λ b. holds granted.other.0 right || b)
          (c.meet-2.ensures ∙ reached asks places ways.other chosen Other same are.other)
      | Parent ↦ c.all_if-4.ensures right known ∙ ap (λ b. holds granted.parent.0 right || b)
          (c.meet-4.ensures ∙ reached asks places ways.parent chosen Parent same are.parent)
      | Left ↦ c.all_if-4.ensures right known ∙ ap (λ b. holds granted.parent.0 right || b)
          (c.meet-4.ensures ∙ reached asks places ways.parent chosen Left same are.parent)
      | Entered ↦ c.all_if-3.ensures right known ∙ ap (λ b. holds granted.entered.0 right || b)
          (c.meet-3.ensures ∙ reached asks places ways.entered chosen Entered same are.entered)
    ]
