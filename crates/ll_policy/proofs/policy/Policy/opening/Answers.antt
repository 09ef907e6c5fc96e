use Rattle.std.proofs.Common.{sym, subst}
use Rattle.std.proofs.lemmas.Result.{IfOk-weaker}
use Rattle.ll_policy.proofs.Others.{Others, opens}
use Rattle.ll_policy.proofs.policy.Policy.opening.Goals as goal

pub returns-clause-connects : goal.returns-clause-connects
returns-clause-connects c = IfOk-weaker c.opening_calls.result _ _
    (λ calls e. subst Others (sym e) (opens c.deref.result.now)) c.opening_calls.ensures
