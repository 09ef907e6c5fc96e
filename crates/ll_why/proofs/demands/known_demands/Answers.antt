use Rattle.std.specs.Prelude.{◌<◌, ◌^◌}
use Rattle.ll_decide.specs.Demands.{set_of, set_on}
use Rattle.ll_decide.specs.declared.demands.Demands.{Demands}
use Rattle.ll_decide.specs.declared.demands.On.TheVariants.{Itself, Other, Parent, Left, Entered}
use Rattle.ll_decide.specs.declared.demands.Way.TheVariants.{There, Back}
use Rattle.ll_why.proofs.demands.known_demands.Goals as goal

pub returns-clause-known : goal.returns-clause-known
returns-clause-known c =
    let after : Demands = record {
      itself = c.known.result;
      other = c.known-2.result;
      parent = c.known-3.result;
      left = c.known-4.result;
      entered = c.known-5.result;
      there = c.known-6.result;
      back = c.known-7.result;
    } in
    record {
      asked = λ on. elim on as (λ on. set_on after on < 2 ^ 15) [
        | Itself ↦ c.known.ensures.known
        | Other ↦ c.known-2.ensures.known
        | Parent ↦ c.known-3.ensures.known
        | Left ↦ c.known-4.ensures.known
        | Entered ↦ c.known-5.ensures.known
      ];
      moved = λ way. elim way as (λ way. set_of after way < 2 ^ 15) [
        | There ↦ c.known-6.ensures.known
        | Back ↦ c.known-7.ensures.known
      ];
    }
