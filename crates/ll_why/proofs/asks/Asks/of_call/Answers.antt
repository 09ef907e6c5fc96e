use Rattle.std.specs.Prelude.{◌≡◌}
use Rattle.ll_decide.specs.declared.demands.On.TheVariants.{Itself, Other, Parent, Left, Entered}
use Rattle.ll_seq.specs.Demanded.{chains}
use Rattle.ll_why.specs.Reasons.{chain_of}
use Rattle.ll_why.specs.declared.asks.Asks.{Asks}
use Rattle.ll_why.proofs.RightDemands.{are_known}
use Rattle.ll_why.proofs.asks.Asks.of_call.Goals as goal

pub returns : goal.returns
returns c client passed =
    let s = c.args.tree.now in
    let call = c.args.call.now in
    let asks : Asks = record {
      demands = c.known_demands.result;
      first = c.in_ok-first.first;
      second = c.in_ok-second.second;
    } in
    record {
      demands = are_known s call c.demands_of.result c.known_demands.result c.known_demands.ensures.asks
          c.known_demands.ensures.moves (c.demands_of.ensures s client passed);
      known = c.known_demands.ensures.known;
      chains = λ on. elim on as (λ on. chain_of asks on ≡ chains s call on) [
        | Itself ↦ c.in_ok-first.ensures.itself
        | Other ↦ c.in_ok-second.ensures.itself
        | Parent ↦ c.in_ok-first.ensures.parent
        | Left ↦ c.in_ok-first.ensures.parent
        | Entered ↦ c.in_ok-second.ensures.parent
      ];
    }
