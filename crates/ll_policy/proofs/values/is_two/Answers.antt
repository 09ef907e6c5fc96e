use Rattle.std.proofs.Common.{ap, sym}
use Rattle.toml.specs.Data.{as_integer}
use Rattle.ll_policy.specs.Faults.{is_two}
use Rattle.ll_policy.proofs.Firsts.{no_value}
use Rattle.ll_policy.proofs.values.is_two.Goals as goal

pub returns-in-Err : goal.returns-in-Err
returns-in-Err c = sym (ap is_two (no_value as_integer _ c.in-Err.field-0 c.in-Err.ensures.fault))
