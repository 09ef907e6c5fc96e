use Rattle.std.proofs.Common.{◌≡◌, sym, ◌∙◌, arith, rules}
use Rattle.std.proofs.lemmas.List.{take_more_same, get_or_default}
use Rattle.ll_seq.proofs.listing.are_same.Goals as goal

pub loop-i-preserved : goal.loop-i-preserved
loop-i-preserved c =
    let same : c.as_str.result.now ≡ c.as_str-in-loop-i.result.now = search rules in
    take_more_same _ _ c.loop-i.i c.index-names-i.result (omega arith) (omega arith) c.loop-i.invariant
    (sym c.index-names-i.is ∙ sym c.as_str.ensures.text ∙ same ∙ c.as_str-in-loop-i.ensures.text ∙ c.index-others-i.is
    ∙ get_or_default c.args.others.now c.loop-i.i _ _ (omega arith))
