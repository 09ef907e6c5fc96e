use Rattle.std.proofs.Common.{map}
use Rattle.std.specs.List.{All}
use Rattle.ll_check.specs.Ends.{IsPolicySource}
use Rattle.ll_check.specs.Files.{source_of}
use Rattle.landtree.proofs.checks.policies_of.Given as goal

-- each policy so far has its text
abbrev pub invariant-loop-path : goal.invariant-loop-path
invariant-loop-path g l = All (IsPolicySource (g.S.Sources.texts l.sources)) (map source_of l.policies.items)
