use Rattle.std.proofs.Common.{◌≡◌, ◌++◌, drop}
use Rattle.std.specs.List.{flat_map}
use Rattle.ll_check.specs.Styles.{byte_in}
use Rattle.ll_check.proofs.styles.Syntax.push.Given as goal

-- what is still to come
abbrev pub invariant-loop-byte : goal.invariant-loop-byte
invariant-loop-byte l =
    l.fn.out.items ++ flat_map (byte_in l.self) l.text
    ≡ l.out.items ++ flat_map (byte_in l.self) (drop l.byte-index l.text)
