use Rattle.std.proofs.Common.{◌≡◌, ◌++◌, drop, string_bytes}
use Rattle.std.specs.List.{flat_map}
use Rattle.ll_why.proofs.text.joined.Given as goal

-- what is still to come
abbrev pub invariant-loop-part : goal.invariant-loop-part
invariant-loop-part l =
    string_bytes l.initial.text ++ flat_map (λ y. l.separator ++ string_bytes y) l.others
    ≡ string_bytes l.text ++ flat_map (λ y. l.separator ++ string_bytes y) (drop l.part-index l.others)
