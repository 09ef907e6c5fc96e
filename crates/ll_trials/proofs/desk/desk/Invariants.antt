use Rattle.std.specs.Prelude.{true}
use Rattle.ll_trials.proofs.desk.desk.Given as goal

-- the table that was just made
abbrev pub ghosts-begins-N-Naming : goal.ghosts-begins-N-Naming
ghosts-begins-N-Naming g a = record { table = a.blank }

abbrev pub ghosts-begins-N-Shape : goal.ghosts-begins-N-Shape
ghosts-begins-N-Shape g a = record { slots = 128; limit = 10; rules = record { abi = 3; copies = true } }
