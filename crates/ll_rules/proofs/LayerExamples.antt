-- Worked examples, which the check computes.
use Rattle.std.specs.Prelude.{◌≡◌, true, false, [], ◌∷◌, Some, refl}
use Rattle.ll_rights.specs.Map.{empty, checked, get, insert, entries}
use Rattle.ll_rights.specs.Right.{read_file, write_file, refer}
use Rattle.ll_rules.specs.Layer.{Layer, grants_on}
use Rattle.ll_rules.specs.Rules.{new_ruleset, with_rule}

-- handles read_file alone
abbrev reads : Layer
reads = new_ruleset 0x4

-- no rule is wanted for a right that isn't handled
pub unhandled_right : grants_on reads [] write_file ≡ true
unfolding empty get insert checked entries
unhandled_right = refl

pub handled_right : grants_on reads (1 ∷ 2 ∷ []) read_file ≡ false
unfolding empty get insert checked entries
handled_right = refl

-- refer wants one, though it isn't handled
pub refer_without_rule : grants_on reads (1 ∷ 2 ∷ []) refer ≡ false
unfolding empty get insert checked entries
refer_without_rule = refl

pub refer_by_rule : grants_on (with_rule reads 1 0x2000) (1 ∷ 2 ∷ []) refer ≡ true
unfolding empty get insert checked entries
refer_by_rule = refl

-- a rule holds on the paths that its inode is on
pub rule_elsewhere : grants_on (with_rule reads 3 0x4) (1 ∷ 2 ∷ []) read_file ≡ false
unfolding empty get insert checked entries
rule_elsewhere = refl

-- two rules on one inode are joined
pub joined_rules : get (with_rule (with_rule (new_ruleset 0x7) 5 0x1) 5 0x6).rules 5 ≡ Some 0x7
unfolding empty get insert checked entries
joined_rules = refl

-- and others stay
pub other_rules : entries (with_rule (with_rule (new_ruleset 0x7) 5 0x1) 4 0x6).rules ≡ (4, 0x6) ∷ (5, 0x1) ∷ []
unfolding empty get insert checked entries
other_rules = refl
