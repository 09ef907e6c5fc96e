use Rattle.std.proofs.Common.{◌≡◌, ◌++◌, drop, string_bytes}
use Rattle.std.specs.List.{flat_map}
use Rattle.ll_commands.specs.CProgram.{c_rule}
use Rattle.ll_commands.proofs.c_program.c_rules.Given as goal

-- what is still to come
abbrev pub invariant-loop-rule : goal.invariant-loop-rule
invariant-loop-rule l =
    flat_map (c_rule l.opening) l.rules ≡ string_bytes l.text ++ flat_map (c_rule l.opening) (drop l.rule-index l.rules)
