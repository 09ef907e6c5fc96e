use Rattle.std.proofs.Common.{◌≡◌, ◌++◌, ◌∷◌, [], drop, string_bytes}
use Rattle.std.specs.List.{flat_map}
use Rattle.ll_commands.specs.CProgram.{c_byte, c_string}
use Rattle.ll_commands.proofs.c_program.c_string.Given as goal

-- what is still to come
abbrev pub invariant-loop-byte : goal.invariant-loop-byte
invariant-loop-byte l = c_string l.told
    ≡ string_bytes l.text ++ (flat_map c_byte (drop l.byte-index l.byte-items) ++ 34 ∷ [])
