use Rattle.std.proofs.Common.{◌≡◌, ◌++◌, ◌∷◌, [], drop, string_bytes}
use Rattle.std.specs.List.{flat_map}
use Rattle.ll_learn.specs.Profile.{toml_byte, toml_string}
use Rattle.ll_learn.proofs.profile.toml_string.Given as goal

-- what is still to come
abbrev pub invariant-loop-byte : goal.invariant-loop-byte
invariant-loop-byte l = toml_string l.told
    ≡ string_bytes l.text ++ (flat_map toml_byte (drop l.byte-index l.byte-items) ++ 34 ∷ [])
