use Rattle.std.specs.Prelude.{ℕ}
use Rattle.std.specs.Ordering.{nat_cmp}
use Rattle.std.proofs.Common.{ap, ◌∙◌}
use Rattle.ll_rights.specs.Map.{Map, from_sorted}
use Rattle.ll_rights.proofs.Maps.{from_sorted-empty}
use Rattle.ll_rules.specs.Layer.{Layer}
use Rattle.ll_rules.specs.RuleTable.{rows_of}
use Rattle.std.specs.FinMap.Entries.{is_sorted}
use Rattle.ll_rules.proofs.RuleTables.{none_above-new}
use Rattle.ll_rules.proofs.layer.Layer.new.Goals as goal

pub invariant_of-result : goal.invariant_of-result
invariant_of-result c = (
  ap (λ es. is_sorted nat_cmp (rows_of es)) c.new.ensures.empty,
  none_above-new c.new.result 0 c.new.ensures.empty,
)

pub returns : goal.returns
returns c =
    let made : Map nat_cmp ℕ → Layer = λ rules. record { handled = c.args.handled.0; rules = rules } in
    ap made (ap (λ es. from_sorted (rows_of es)) c.new.ensures.empty ∙ from_sorted-empty ℕ nat_cmp)
