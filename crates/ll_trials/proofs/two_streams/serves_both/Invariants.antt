use Rattle.std.specs.Prelude.{true}
use Rattle.ll_trials.proofs.two_streams.serves_both.Given as goal

-- the table that was just made
abbrev pub ghosts-both_are_answered-N-Naming : goal.ghosts-both_are_answered-N-Naming
ghosts-both_are_answered-N-Naming g a = record { table = a.blank }

abbrev pub ghosts-both_are_answered-N-Shape : goal.ghosts-both_are_answered-N-Shape
ghosts-both_are_answered-N-Shape g a = record { slots = 128; limit = 100; rules = record { abi = 3; copies = true } }
