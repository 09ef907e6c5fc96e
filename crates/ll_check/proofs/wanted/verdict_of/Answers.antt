use Rattle.std.proofs.Common.{◌≢◌, codes, rules}
use Rattle.ll_check.proofs.Verdicts.{no_verdict, no_verdict_behind}
use Rattle.ll_check.proofs.wanted.verdict_of.Goals as goal

pub returns-in_err-denied : goal.returns-in_err-denied
returns-in_err-denied c =
    let other : c.args.text.now ≢ codes "allowed" = search rules in
    let more : c.args.text.now ≢ codes "denied" = search rules in
    rw c.from_residual.ensures
    (no_verdict c.args.text.now other more (λ rest e. absurd (c.in_err-denied.ensures.none rest e)))

pub returns-in-None : goal.returns-in-None
returns-in-None c =
    let other : c.args.text.now ≢ codes "allowed" = search rules in
    let more : c.args.text.now ≢ codes "denied" = search rules in
    no_verdict_behind c.args.text.now c.in_ok-denied.denied.now other more c.in_ok-denied.ensures.found
    c.in_default.ensures c.in-None.ensures
