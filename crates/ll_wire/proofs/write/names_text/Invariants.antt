use Rattle.std.proofs.Common.{◌≡◌, ◌++◌, ◌∷◌, take, codes, string_bytes}
use Rattle.std.specs.List.{flat_map}
use Rattle.ll_wire.proofs.write.names_text.Given as goal

abbrev pub invariant-loop-name : goal.invariant-loop-name
invariant-loop-name l = string_bytes l.text ≡ codes "names" ++ flat_map (λ name. 32 ∷ name) (take l.name-index l.names)
