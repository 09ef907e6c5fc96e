use Rattle.std.specs.Prelude.{map}
use Rattle.ll_rules.specs.Layer.{grants_on}
use Rattle.ll_audit.specs.Saved.{opened}
use Rattle.ll_learn.specs.Preface.{IsUnlearnedOfOne}
use Rattle.ll_learn.proofs.ManyParts.{gathered_next, gathered_none, is_lent}
use Rattle.ll_learn.proofs.Hindrances.{of_err}
use Rattle.ll_learn.proofs.preface.Opening.needs.Goals as goal

pub loop-history-init : goal.loop-history-init
loop-history-init c =
    gathered_none (opened c.args.self.now.header.now) c.args.self.now.early.now c.args.self.now.client
    c.args.histories.now c.new-needs.result (λ layer. c.new-needs.ensures.meets (grants_on layer))
    c.new-needs.ensures.rooted c.new-needs.ensures.asks c.new-needs.ensures.moves c.new-needs.ensures.outside

pub loop-history-preserved : goal.loop-history-preserved
loop-history-preserved c =
    gathered_next (opened c.args.self.now.header.now) c.args.self.now.early.now c.args.self.now.client
    c.args.histories.now c.loop-history.history c.index-histories-history.result c.loop-history-test.true
    c.index-histories-history.is c.loop-history.needs c.gather.new.needs c.loop-history.invariant
    c.in_ok-gather.ensures.begins c.in_ok-gather.ensures.gathers

pub returns-in_err-gather-clause-fault : goal.returns-in_err-gather-clause-fault
returns-in_err-gather-clause-fault c =
    let s = opened c.args.self.now.header.now in
    let early = c.args.self.now.early.now in
    let client = c.args.self.now.client in
    let hs = c.args.histories.now in
    of_err c.from_residual.result c.in_err-gather.field-0.0 (IsUnlearnedOfOne s early client (map (λ h. h.now) hs))
    c.from_residual.ensures.1 (record {
      number = c.loop-history.history;
      es = c.index-histories-history.result.now;
      is = is_lent s early client hs c.loop-history.history c.index-histories-history.result
          c.loop-history-test.true c.index-histories-history.is;
      so = c.in_err-gather.ensures.fault;
    })
