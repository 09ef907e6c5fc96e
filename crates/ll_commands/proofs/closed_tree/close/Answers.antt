use Rattle.std.proofs.Common.{◌≡◌, ◌+◌, ◌-◌, arith}
use Rattle.ll_rights.specs.declared.limits.TheConstants.{TREE_CLIENTS}
use Rattle.ll_seq.specs.State.{start}
use Rattle.ll_commands.proofs.closed_tree.close.Goals as goal

pub are_entries-requires : goal.are_entries-requires
are_entries-requires g c =
    let nodes = g.N.Shape.slots - TREE_CLIENTS in
    let slots : g.N.Shape.slots ≡ nodes + TREE_CLIENTS = omega (arith, c.requires) in
    (start g.N.Shape.rules nodes, (c.close_all-history.ensures.closed nodes slots).legal)
