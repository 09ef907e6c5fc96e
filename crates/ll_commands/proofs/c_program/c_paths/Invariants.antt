use Rattle.std.proofs.Common.{◌≡◌, ◌++◌, drop, map, string_bytes}
use Rattle.std.specs.List.{flat_map}
use Rattle.ll_commands.specs.CProgram.{c_path}
use Rattle.ll_commands.proofs.c_program.c_paths.Given as goal

-- what is still to come
abbrev pub invariant-loop-path : goal.invariant-loop-path
invariant-loop-path l = flat_map c_path (map (λ t. t.now) l.paths)
    ≡ string_bytes l.text ++ flat_map c_path (map (λ t. t.now) (drop l.path-index l.paths))
