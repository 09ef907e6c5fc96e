use Rattle.std.specs.Prelude.{true}
use Rattle.ll_trials.proofs.full_tree.stays_full.Given as goal

-- the table that was just made
abbrev pub ghosts-opens-N-Naming : goal.ghosts-opens-N-Naming
ghosts-opens-N-Naming g a = record { table = a.blank }

abbrev pub ghosts-opens-N-Shape : goal.ghosts-opens-N-Shape
ghosts-opens-N-Shape g a = record { slots = 129; limit = 1000; rules = record { abi = 3; copies = true } }
