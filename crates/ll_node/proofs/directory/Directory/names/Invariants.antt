use Rattle.std.specs.Prelude.{◌≡◌, ℕ, List, ◌++◌, map, String, string_bytes}
use Rattle.std.proofs.Common.{Global}
use Rattle.ll_rights.specs.Map.{entries}
use Rattle.ll_node.proofs.directory.Directory.names.Given as goal

-- the names so far, and those to come
abbrev pub invariant-loop-text : goal.invariant-loop-text
invariant-loop-text l = l.listing ++ map (λ (text : String Global). string_bytes text) l.text-iterator
    ≡ map (λ (e : List ℕ × ℕ). e.0) (entries l.self)
