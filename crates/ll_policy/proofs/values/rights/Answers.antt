use Rattle.std.proofs.Common.{◌<◌, ◌^◌, [], sym, ap, ◌∙◌, arith}
use Rattle.std.specs.Prelude.{unwrap_or}
use Rattle.toml.specs.Data.{as_str}
use Rattle.ll_policy.specs.declared.fault.PolicyFault.TheVariants.{BadRights}
use Rattle.ll_policy.specs.Value.{is_rights}
use Rattle.ll_policy.proofs.Firsts.{value_passed, value_failed}
use Rattle.ll_policy.proofs.Texts.{is_rights-text, is_rights-other}
use Rattle.ll_policy.proofs.values.rights.Goals as goal

pub returns-in-Some : goal.returns-in-Some
returns-in-Some c =
    let set = c.in-Some.rights.0 in
    let low : set < 2 ^ 64 = omega arith in (
      value_passed as_str is_rights BadRights _ c.in_ok-text.text.now c.in_ok-text.ensures.found
          (rw c.in-Some.ensures.found (is_rights-text set low)),
      sym c.in-Some.ensures.found ∙ sym (ap (λ o. unwrap_or o []) c.in_ok-text.ensures.found),
    )

pub returns-in-None : goal.returns-in-None
returns-in-None c = value_failed as_str is_rights BadRights _ c.in_ok-text.text.now c.in_ok-text.ensures.found
    (is_rights-other c.in_ok-text.text.now c.in-None.ensures.none)
