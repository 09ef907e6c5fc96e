use Rattle.std.proofs.Common.{◌≡◌, ◌++◌, drop, string_bytes}
use Rattle.std.specs.List.{flat_map}
use Rattle.ll_wire.specs.Terminal.{escaped_byte}
use Rattle.ll_wire.proofs.terminal.escaped.Given as goal

-- what is still to come
abbrev pub invariant-loop-byte : goal.invariant-loop-byte
invariant-loop-byte l =
    flat_map escaped_byte l.text ≡ string_bytes l.told ++ flat_map escaped_byte (drop l.byte-index l.text)
