use Rattle.std.specs.Prelude.{string_bytes}
use Rattle.std.proofs.Common.{sym, subst, ◌∙◌}
use Rattle.ll_rights.specs.Map.{insert}
use Rattle.ll_path.specs.Name.{IsName}
use Rattle.ll_node.proofs.NameTable.{names_kept-insert, AreRows-insert}
use Rattle.ll_node.proofs.directory.Directory.insert.Goals as goal

pub invariant_of-self-2 : goal.invariant_of-self-2
invariant_of-self-2 c =
    AreRows-insert c.self.inside.rows c.insert.new.self c.in_ok-text.text c.args.inode c.in_ok-insert.ensures.entries
    c.in_ok-insert.ensures.ordered c.self.invariant (subst IsName (sym c.in_ok-text.ensures.ok) c.requires)

pub returns-clause-ok : goal.returns-clause-ok
returns-clause-ok c =
    names_kept-insert c.self.inside.rows c.insert.new.self (string_bytes c.in_ok-text.text) c.self.invariant
    (invariant_of-self-2 c) c.args.inode c.in_ok-insert.ensures.updates
    ∙ (λ i. insert (c.self.view_is i) (c.in_ok-text.ensures.ok i) c.args.inode)
