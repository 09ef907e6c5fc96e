use Rattle.std.proofs.Common.{sym, subst}
use Rattle.ll_policy.proofs.Others.{Others, layers_add}
use Rattle.ll_policy.proofs.policy.Policy.profile.Goals as goal

pub returns-then-is_named-clause-connects : goal.returns-then-is_named-clause-connects
returns-then-is_named-clause-connects c =
    subst Others (sym c.in_ok-calls.ensures) (layers_add 0 c.profile-item.result.layers.items)
