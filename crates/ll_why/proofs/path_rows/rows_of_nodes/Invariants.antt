use Rattle.std.proofs.Common.{take, string_bytes}
use Rattle.ll_why.specs.PathRows.{AreRows, made_paths}
use Rattle.ll_why.proofs.path_rows.rows_of_nodes.Given as goal

-- so far
abbrev pub invariant-loop-call : goal.invariant-loop-call
invariant-loop-call l = record {
  so_far : AreRows l.tree l.domain l.style (made_paths (take l.call-index l.calls)) (string_bytes l.text);
}
