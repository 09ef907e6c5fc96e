use Rattle.ll_commands.proofs.rights.table_of.Goals as goal

pub returns-in-Ok-clause-table : goal.returns-in-Ok-clause-table
returns-in-Ok-clause-table c =
    (c.in_ok-opened.opened.client, c.in_ok-opened.opened.tree, c.in_ok-opened.ensures.ok, c.in-Ok.ensures)
