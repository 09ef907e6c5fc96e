use Rattle.std.specs.Prelude.{◌≡◌, ◌<◌, ◌^◌, ◌&&◌, ◌||◌}
use Rattle.ll_rights.specs.Access.{holds}
use Rattle.ll_decide.specs.declared.demands.On.TheVariants.{Itself, Other, Parent, Left, Entered}
use Rattle.ll_why.specs.Places.{is_among, set_in}
use Rattle.ll_why.specs.declared.places.Sets.{Sets}
use Rattle.ll_why.proofs.places.Sets.with.Goals as goal

pub returns-clause-known : goal.returns-clause-known
returns-clause-known c low few on =
    let after : Sets = record {
      itself = c.more_if.result;
      other = c.more_if-2.result;
      entered = c.more_if-3.result;
      parent = c.more_if-4.result;
    } in
    elim on as (λ on. set_in after on < 2 ^ 15) [
      | Itself ↦ c.more_if.ensures.known (low Itself) few
      | Other ↦ c.more_if-2.ensures.known (low Other) few
      | Parent ↦ c.more_if-4.ensures.known (low Parent) few
      | Left ↦ c.more_if-4.ensures.known (low Left) few
      | Entered ↦ c.more_if-3.ensures.known (low Entered) few
    ]

pub returns-clause-rights : goal.returns-clause-rights
returns-clause-rights c on right =
    let after : Sets = record {
      itself = c.more_if.result;
      other = c.more_if-2.result;
      entered = c.more_if-3.result;
      parent = c.more_if-4.result;
    } in
    elim on as (λ on. holds (set_in after on) right
    ≡ (holds (set_in c.args.self on) right || (is_among c.args.places on && holds c.args.rights.0 right))) [
      | Itself ↦ c.more_if.ensures.rights right
      | Other ↦ c.more_if-2.ensures.rights right
      | Parent ↦ c.more_if-4.ensures.rights right
      | Left ↦ c.more_if-4.ensures.rights right
      | Entered ↦ c.more_if-3.ensures.rights right
    ]
