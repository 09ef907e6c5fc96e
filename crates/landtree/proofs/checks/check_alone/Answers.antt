use Rattle.std.proofs.lemmas.Result.{IfOk-weaker}
use Rattle.landtree.proofs.checks.check_alone.Goals as goal

pub returns : goal.returns
returns g c = IfOk-weaker c.check.result _ _ (λ end done. (done.0, done.1)) c.check.ensures.checked
