use Rattle.std.specs.Prelude.{true}
use Rattle.ll_trials.proofs.storm.storm_of.Given as goal

-- the table that was just made
abbrev pub ghosts-storm-N-Naming : goal.ghosts-storm-N-Naming
ghosts-storm-N-Naming g a = record { table = a.blank }

abbrev pub ghosts-storm-N-Shape : goal.ghosts-storm-N-Shape
ghosts-storm-N-Shape g a = record { slots = 1088; limit = 1000000; rules = record { abi = 3; copies = true } }
