use Rattle.std.proofs.Common.{cond, ap, sym, ◌∙◌}
use Rattle.std.proofs.lemmas.Bool.{eq-eqb}
use Rattle.ll_rights.specs.Map.{remove}
use Rattle.ll_node.specs.Slot.{Slot}
use Rattle.ll_node.proofs.NameTaken.{removed_is}
use Rattle.ll_node.proofs.held.Held.take_name.Goals as goal

pub returns-then-self-directory : goal.returns-then-self-directory
returns-then-self-directory c =
    let held = c.args.self.now in
    ap (λ (node : Slot). record held { node = node })
    (removed_is c.remove.result held.node c.remove.new.self c.args.name.now c.remove.ensures.ok
    c.remove.ensures.refused c.remove.ensures.err)
    ∙ sym (ap (λ b. cond b (record held { node = record held.node { names = remove held.node.names c.args.name.now } })
    held) (eq-eqb held.inode c.args.directory c.if-self-directory.true))
