use Rattle.std.proofs.Common.{refl, ap, sym, subst, ◌∙◌}
use Rattle.std.specs.Prelude.{[], ◌∷◌, ◌++◌, unwrap_or, if◌then◌else◌}
use Rattle.ll_rights.specs.Map.{get}
use Rattle.ll_seq.specs.State.{State}
use Rattle.ll_seq.specs.Effects.{with_moved, renamed, let_go}
use Rattle.ll_seq.specs.Facts.{AreKept}
use Rattle.ll_node.specs.InodeTable.{Table, IsTable}
use Rattle.ll_node.proofs.TableSteps.{its_slot, slot_left, goes, known_alive, replaced_dies}
use Rattle.ll_node.proofs.table.Inodes.rename.Goals as goal

pub returns-in-Some-clause-table : goal.returns-in-Some-clause-table
returns-in-Some-clause-table c s spares old new table from into directory there taken lived room =
    let own = subst (IsTable s spares) (sym c.self.view_is) table in
    let node = c.in-Some.node in
    let alive = lived node c.in-Some.is in
    let slot = its_slot s spares _ own node alive in
    let after = with_moved s old new c.args.inode in
    let dies = replaced_dies _ _ (c.if-goes.ensures.goes s old new own.facts from into there taken node c.in-Some.is
    alive) in
    let is = ap (renamed s old new c.args.inode) c.in-Some.is ∙ ap (λ b. if b then s else let_go after node) dies.0 in
    let kept = subst (λ (u : State). AreKept u c.rename-goes.new.self) is
    (c.if-goes.ensures.kept s old new own.facts from into directory there taken room) in
    subst (λ (u : State). IsTable u spares c.vacate.new.self) (sym is)
    (subst (IsTable (let_go after node) spares)
    (sym (c.vacate.ensures.freed slot.0 own.placed slot.1 (slot_left s spares _ own node alive)))
    (goes s spares _ own after c.rename-goes.new.self node refl refl refl kept dies.1 alive slot.0 slot.1))

pub returns-in-Some-clause-free : goal.returns-in-Some-clause-free
returns-in-Some-clause-free c s spares slot table at =
    let own = subst (IsTable s spares) (sym c.self.view_is) table in
    let node = c.in-Some.node in
    let there = ap (λ (t : Table). get t.places node) c.self.view_is
    ∙ ap (λ o. get c.args.self.now.places (unwrap_or o 0)) (sym c.in-Some.is) ∙ at in
    ap (λ (t : Table). t.free) (c.vacate.ensures.freed slot own.placed there
    (slot_left s spares _ own node (known_alive s spares _ own node slot there)))
    ∙ ap (λ (t : Table). t.free ++ slot ∷ []) c.self.view_is
    ∙ ap (λ b. if b then c.args.self.now.free ++ slot ∷ [] else c.args.self.now.free) (sym c.if-goes.true)
