use Rattle.std.specs.Prelude.{◌+◌}
use Rattle.ll_rights.specs.declared.limits.TheConstants.{TREE_CLIENTS}
use Rattle.ll_commands.proofs.service.host_on.Given as goal

-- the table that was just made
abbrev pub ghosts-host_in-N-Naming : goal.ghosts-host_in-N-Naming
ghosts-host_in-N-Naming g a = record { table = a.blank }

abbrev pub ghosts-host_in-N-Shape : goal.ghosts-host_in-N-Shape
ghosts-host_in-N-Shape g a =
    record { slots = a.setup.nodes + TREE_CLIENTS; limit = a.setup.history; rules = a.setup.rules }
