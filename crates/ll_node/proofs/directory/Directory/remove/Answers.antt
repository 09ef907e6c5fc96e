use Rattle.std.proofs.Common.{sym, ap, ◌∙◌}
use Rattle.ll_rights.specs.Map.{get, remove}
use Rattle.ll_node.specs.Slot.{NameMap}
use Rattle.ll_node.proofs.NameTable.{get-names_kept, names_kept-remove, AreRows-remove}
use Rattle.ll_node.proofs.directory.Directory.remove.Goals as goal

pub invariant_of-self : goal.invariant_of-self
invariant_of-self c = AreRows-remove c.self.inside.rows c.remove.new.self _ c.remove.ensures.entries
    c.remove.ensures.ordered c.self.invariant

pub returns-clause-found : goal.returns-clause-found
returns-clause-found c =
    c.remove.ensures.value
    ∙ sym (get-names_kept c.self.inside.rows c.args.name.now c.self.invariant)
    ∙ ap (λ (names : NameMap). get names c.args.name.now) c.self.view_is

pub returns-clause-left : goal.returns-clause-left
returns-clause-left c =
    names_kept-remove c.self.inside.rows c.remove.new.self c.args.name.now c.self.invariant (invariant_of-self c)
    c.remove.ensures.updates
    ∙ ap (λ (names : NameMap). remove names c.args.name.now) c.self.view_is
