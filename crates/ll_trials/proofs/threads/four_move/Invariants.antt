use Rattle.std.specs.Prelude.{true}
use Rattle.ll_trials.proofs.threads.four_move.Given as goal

-- the table that was just made
abbrev pub ghosts-come_to_ends-N-Naming : goal.ghosts-come_to_ends-N-Naming
ghosts-come_to_ends-N-Naming g a = record { table = a.blank }

abbrev pub ghosts-come_to_ends-N-Shape : goal.ghosts-come_to_ends-N-Shape
ghosts-come_to_ends-N-Shape g a = record { slots = 128; limit = 1000000; rules = record { abi = 3; copies = true } }
