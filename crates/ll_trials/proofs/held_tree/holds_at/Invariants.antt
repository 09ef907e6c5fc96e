use Rattle.std.specs.Prelude.{true}
use Rattle.ll_trials.proofs.held_tree.holds_at.Given as goal

-- the table that was just made
abbrev pub ghosts-opens-N-Naming : goal.ghosts-opens-N-Naming
ghosts-opens-N-Naming g a = record { table = a.blank }

abbrev pub ghosts-opens-N-Shape : goal.ghosts-opens-N-Shape
ghosts-opens-N-Shape g a = record { slots = 72; limit = 100; rules = record { abi = 3; copies = true } }
