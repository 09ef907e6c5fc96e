use Rattle.std.proofs.Common.{◌≢◌, codes, rules}
use Rattle.ll_check.proofs.OutcomeTexts.{no_word}
use Rattle.ll_check.proofs.outcomes.word_outcome.Goals as goal

pub returns : goal.returns
returns c =
    let a : c.args.text.now ≢ codes "NotNow" = search rules in
    let b : c.args.text.now ≢ codes "begun" = search rules in
    let d : c.args.text.now ≢ codes "forked" = search rules in
    let e : c.args.text.now ≢ codes "restarted" = search rules in
    no_word c.args.text.now a b d e
