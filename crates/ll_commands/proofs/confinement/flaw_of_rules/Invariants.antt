use Rattle.std.proofs.Common.{◌≡◌, drop}
use Rattle.std.specs.List.{list_all}
use Rattle.ll_commands.specs.Confinement.{is_sound_rule}
use Rattle.ll_commands.proofs.confinement.flaw_of_rules.Given as goal

-- the rules that are still to come decide
abbrev pub invariant-loop-rule : goal.invariant-loop-rule
invariant-loop-rule l = list_all (is_sound_rule l.opening l.made) l.rules
    ≡ list_all (is_sound_rule l.opening l.made) (drop l.rule-index l.rules)
