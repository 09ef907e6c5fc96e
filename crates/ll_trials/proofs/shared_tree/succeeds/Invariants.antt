use Rattle.std.specs.Prelude.{true}
use Rattle.ll_trials.proofs.shared_tree.succeeds.Given as goal

-- the table that was just made
abbrev pub ghosts-tries-N-Naming : goal.ghosts-tries-N-Naming
ghosts-tries-N-Naming g a = record { table = a.blank }

abbrev pub ghosts-tries-N-Shape : goal.ghosts-tries-N-Shape
ghosts-tries-N-Shape g a = record { slots = 576; limit = a.history; rules = record { abi = 3; copies = true } }
