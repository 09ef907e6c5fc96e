use Rattle.std.specs.Prelude.{◌≡◌, ◌==◌}
use Rattle.std.specs.List.{list_any}
use Rattle.std.proofs.Common.{ap, ◌∙◌}
use Rattle.ll_decide.specs.declared.demands.On.TheVariants.{Itself, Other, Parent, Left, Entered}
use Rattle.ll_why.specs.Changes.{end_of}
use Rattle.ll_why.specs.Places.{is_among, leads}
use Rattle.ll_why.specs.declared.places.Places.{Places}
use Rattle.ll_why.proofs.places.Places.on_path.Goals as goal

pub returns : goal.returns
returns c on from is =
    let asks = c.args.asks.now in
    let found : Places = record {
      itself = c.is_on.result;
      other = c.is_on-2.result;
      entered = c.is_on-3.result;
      parent = c.is_on-4.result;
    } in
    let itself = c.end_of.ensures ∙ ap end_of c.deref.ensures.value in
    let other = c.end_of-2.ensures ∙ ap end_of c.deref-2.ensures.value in
    let entered = c.end_of-3.ensures ∙ ap end_of c.deref-3.ensures.value in
    let parent = c.end_of-4.ensures ∙ ap end_of c.deref-4.ensures.value in
    elim from as (λ from. is_among found from ≡ leads asks from on) [
      | Itself ↦ c.is_on.ensures ∙ (λ j. list_any (λ i. i == itself j) (is j))
      | Other ↦ c.is_on-2.ensures ∙ (λ j. list_any (λ i. i == other j) (is j))
      | Parent ↦ c.is_on-4.ensures ∙ (λ j. list_any (λ i. i == parent j) (is j))
      | Left ↦ c.is_on-4.ensures ∙ (λ j. list_any (λ i. i == parent j) (is j))
      | Entered ↦ c.is_on-3.ensures ∙ (λ j. list_any (λ i. i == entered j) (is j))
    ]
