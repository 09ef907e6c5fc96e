use Rattle.std.specs.Prelude.{List}
use Rattle.std.specs.List.{AllZip}
use Rattle.std.proofs.Common.{sym, subst, ◌∙◌}
use Rattle.ll_rules.specs.Layer.{Layer}
use Rattle.ll_decide.specs.Judge.{grants_along}
use Rattle.ll_decide.specs.Verdict.{verdict}
use Rattle.ll_why.specs.Reasons.{IsLayerReason, chain_of}
use Rattle.ll_why.proofs.ClearLayers.{clear_willing}
use Rattle.ll_why.proofs.Denials.{willing_allows}
use Rattle.ll_why.proofs.PolicyAnswers.{judged_so}
use Rattle.ll_why.proofs.why.reason_of.Goals as goal

pub returns : goal.returns
returns c passed =
    let s = c.args.tree.now in
    let caller = c.args.caller.now in
    let call = c.args.call.now in
    let asks = c.in_ok-asks.asks in
    let asked = c.in_ok-asks.ensures caller passed in
    let d = asked.demands in
    let denied = c.denial_of-denial.ensures d.asks d.moves d.are_asks d.are_moves in
    let layers = subst
    (λ (l : List Layer). AllZip (λ one layer. IsLayerReason asks layer one) c.in_ok-layers.layers.items l)
    c.layers.ensures c.in_ok-layers.ensures in
    record {
      asked = asked;
      denial = denied
          ∙ (λ i. verdict (grants_along (λ on. asked.chains on i)) caller.domain d.asks d.moves)
          ∙ sym (judged_so s caller call asks.demands c.requires d);
      layers = layers;
      clear = λ clear. denied ∙ willing_allows (chain_of asks) asks.demands d.asks d.moves d.are_asks d.are_moves
          caller.domain (clear_willing asks caller.domain c.in_ok-layers.layers.items layers clear);
    }
