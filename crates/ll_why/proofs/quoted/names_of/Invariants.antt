use Rattle.std.proofs.Common.{◌≡◌, ◌++◌, drop, map, string_bytes}
use Rattle.ll_rights.specs.Access.{names_among, set_names}
use Rattle.ll_rights.specs.Right.{all_rights}
use Rattle.ll_why.specs.Quoted.{quoted}
use Rattle.ll_why.proofs.quoted.names_of.Given as goal

-- what is still to come
abbrev pub invariant-loop-right : goal.invariant-loop-right
invariant-loop-right l = map quoted (set_names l.set.0)
    ≡ map string_bytes l.names.items ++ map quoted (names_among (drop l.right-index all_rights) l.set.0)
