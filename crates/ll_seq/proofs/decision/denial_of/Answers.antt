use Rattle.std.proofs.Common.{sym, ◌∙◌}
use Rattle.ll_seq.specs.Demanded.{chains}
use Rattle.ll_seq.proofs.AnswerParts.{judged_so, none_unlayered}
use Rattle.ll_seq.proofs.decision.denial_of.Goals as goal

pub returns-then-len-eq0 : goal.returns-then-len-eq0
returns-then-len-eq0 c s caller passed ours granted =
    none_unlayered s caller c.args.call.now c.args.granted.now.itself.now _ ours
    (sym c.len.ensures ∙ c.if-len-eq0.true) granted.itself

pub returns : goal.returns
returns c s caller passed ours granted =
    let call = c.args.call.now in
    let demands = c.demands_of-demands.ensures s caller passed in
    judged_so s caller call c.demands_of-demands.result ours demands
    ∙ sym (c.least_denial.ensures.along_chains caller.domain (chains s call) demands.asks demands.moves
    demands.are_asks demands.are_moves granted)
