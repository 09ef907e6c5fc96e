use Rattle.toml.specs.Data.{as_str}
use Rattle.ll_policy.specs.declared.fault.PolicyFault.TheVariants.{BadKind}
use Rattle.ll_policy.specs.Value.{is_kind}
use Rattle.ll_policy.proofs.Firsts.{value_failed}
use Rattle.ll_policy.proofs.Texts.{is_kind-other}
use Rattle.ll_policy.proofs.values.kind.Goals as goal

pub returns-in-None : goal.returns-in-None
returns-in-None c = value_failed as_str is_kind BadKind _ c.in_ok-text.text.now c.in_ok-text.ensures.found
    (is_kind-other c.in_ok-text.text.now c.in-None.ensures.none)
