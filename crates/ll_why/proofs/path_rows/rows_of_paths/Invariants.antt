use Rattle.std.proofs.Common.{take, string_bytes}
use Rattle.ll_why.specs.PathRows.{AreRows}
use Rattle.ll_why.proofs.path_rows.rows_of_paths.Given as goal

-- so far
abbrev pub invariant-loop-path : goal.invariant-loop-path
invariant-loop-path l = record {
  so_far : AreRows l.tree l.domain l.style (take l.path-index l.paths) (string_bytes l.text);
}
