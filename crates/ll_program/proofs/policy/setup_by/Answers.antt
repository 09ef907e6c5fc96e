use Rattle.std.proofs.Common.{Some, true, ap}
use Rattle.ll_rights.specs.declared.abi.Abi.{Abi}
use Rattle.ll_seq.specs.declared.rules.Rules.{Rules}
use Rattle.ll_program.proofs.policy.setup_by.Goals as goal

abbrev rules_at : Abi → Rules
rules_at abi = record { abi = abi; copies = true }

pub returns-clause-setup : goal.returns-clause-setup
returns-clause-setup c = record {
  rules = ap rules_at c.abi.ensures;
  loader = ap Some c.in-Ok.ensures.calls;
  profile = c.in_ok-profile.ensures.calls;
}
