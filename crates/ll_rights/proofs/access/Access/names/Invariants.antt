use Rattle.std.proofs.Common.{◌≡◌}
use Rattle.std.specs.Prelude.{string_bytes}
use Rattle.ll_rights.proofs.RightNames.{text_so_far}
use Rattle.ll_rights.proofs.access.Access.names.Given as goal

abbrev pub invariant-loop-right : goal.invariant-loop-right
invariant-loop-right l = string_bytes l.text ≡ text_so_far l.right-index l.self.0
