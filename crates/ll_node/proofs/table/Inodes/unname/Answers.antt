use Rattle.std.specs.Prelude.{[], ◌∷◌, ◌++◌, cond}
use Rattle.std.proofs.Common.{refl, sym, subst, ap, ◌∙◌}
use Rattle.ll_rights.specs.Map.{get, remove}
use Rattle.ll_seq.specs.Effects.{without_name}
use Rattle.ll_node.specs.InodeTable.{Table, IsTable}
use Rattle.ll_node.proofs.TableSteps.{its_slot, slot_left, stays, goes, dead_is, alive_is, known_alive}
use Rattle.ll_node.proofs.table.Inodes.unname.Goals as goal

pub returns-then-goes-clause-table : goal.returns-then-goes-clause-table
returns-then-goes-clause-table c s spares at table directory there alive =
    let own = subst (IsTable s spares) (sym c.self.view_is) table in
    let slot = its_slot s spares _ own c.args.inode alive in
    let dead = dead_is _ (c.if-goes.ensures.goes s at own.facts directory there alive) in
    subst (IsTable (without_name s at c.args.inode) spares)
    (sym (c.vacate.ensures.freed slot.0 own.placed slot.1 (slot_left s spares _ own c.args.inode alive)))
    (goes s spares _ own (record s { entries = remove s.entries at }) c.unname-goes.new.self c.args.inode refl refl refl
    (c.if-goes.ensures.kept s at own.facts directory there) dead alive slot.0 slot.1)

pub returns-else-goes-clause-table : goal.returns-else-goes-clause-table
returns-else-goes-clause-table c s spares at table directory there alive =
    let own = subst (IsTable s spares) (sym c.self.view_is) table in
    stays s spares _ own (record s { entries = remove s.entries at }) c.unname-goes.new.self c.args.inode refl refl refl
    (c.if-goes.ensures.kept s at own.facts directory there)
    (alive_is _ (c.if-goes.ensures.goes s at own.facts directory there alive))

pub returns-then-goes-clause-free : goal.returns-then-goes-clause-free
returns-then-goes-clause-free c s spares slot table at =
    let own = subst (IsTable s spares) (sym c.self.view_is) table in
    let there = ap (λ (t : Table). get t.places c.args.inode) c.self.view_is ∙ at in
    ap (λ (t : Table). t.free) (c.vacate.ensures.freed slot own.placed there
    (slot_left s spares _ own c.args.inode (known_alive s spares _ own c.args.inode slot there)))
    ∙ ap (λ (t : Table). t.free ++ slot ∷ []) c.self.view_is
    ∙ ap (λ b. cond b (c.args.self.now.free ++ slot ∷ []) c.args.self.now.free) (sym c.if-goes.true)
