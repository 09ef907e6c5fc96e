use Rattle.std.proofs.Common.{take, string_bytes}
use Rattle.ll_why.specs.Difference.{AreCompared, only_paths}
use Rattle.ll_why.proofs.comparison.Comparison.at_nodes.Given as goal

-- so far
abbrev pub invariant-loop-call : goal.invariant-loop-call
invariant-loop-call l = record {
  so_far : AreCompared l.self (only_paths l.others (take l.call-index l.calls)) l.told.found
      (string_bytes l.told.text);
}
