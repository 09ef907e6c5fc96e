use Rattle.std.proofs.Common.{◌≡◌}
use Rattle.ll_path.specs.Path.{is_beneath}
use Rattle.ll_path.proofs.path.Path.is_beneath.Given as goal

abbrev pub invariant-loop-above : goal.invariant-loop-above
invariant-loop-above l = is_beneath l.above-iterator l.names ≡ is_beneath l.upper l.self
