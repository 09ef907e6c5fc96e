use Rattle.std.specs.Prelude.{true}
use Rattle.ll_trials.proofs.two_threads.two_threads_and_one_is_confined.Given as goal

-- the table that was just made
abbrev pub ghosts-two_threads-N-Naming : goal.ghosts-two_threads-N-Naming
ghosts-two_threads-N-Naming g a = record { table = a.blank }

abbrev pub ghosts-two_threads-N-Shape : goal.ghosts-two_threads-N-Shape
ghosts-two_threads-N-Shape g a = record { slots = 128; limit = 100; rules = record { abi = 3; copies = true } }
