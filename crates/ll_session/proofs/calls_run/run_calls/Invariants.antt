use Rattle.std.specs.Prelude.{◌+◌}
use Rattle.ll_rights.specs.declared.limits.TheConstants.{TREE_CLIENTS}
use Rattle.ll_session.proofs.calls_run.run_calls.Given as goal

-- the table that was just made
abbrev pub ghosts-run_calls_in-N-Naming : goal.ghosts-run_calls_in-N-Naming
ghosts-run_calls_in-N-Naming g a = record { table = a.blank }

abbrev pub ghosts-run_calls_in-N-Shape : goal.ghosts-run_calls_in-N-Shape
ghosts-run_calls_in-N-Shape g a =
    record { slots = a.setup.nodes + TREE_CLIENTS; limit = a.setup.history; rules = a.setup.rules }
