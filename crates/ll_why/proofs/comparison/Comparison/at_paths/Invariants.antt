use Rattle.std.proofs.Common.{take, string_bytes}
use Rattle.ll_why.specs.Difference.{AreCompared}
use Rattle.ll_why.proofs.comparison.Comparison.at_paths.Given as goal

-- so far
abbrev pub invariant-loop-path : goal.invariant-loop-path
invariant-loop-path l = record {
  so_far : AreCompared l.self (take l.path-index l.paths) l.told.found (string_bytes l.told.text);
}
