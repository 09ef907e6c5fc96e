use Rattle.std.specs.Prelude.{[], ◌∷◌, ◌++◌, map, refl, if◌then◌else◌}
use Rattle.std.proofs.Common.{ap, ◌∙◌}
use Rattle.std.proofs.lemmas.Simd.{map-map}
use Rattle.ll_node.specs.Lent.{unnamed_in, vacated}
use Rattle.ll_node.specs.InodeTable.{without_inode}
use Rattle.ll_node.proofs.TableSteps.{its_slot}
use Rattle.ll_node.proofs.TakenSlots.{inode_there, taken_alone, taken_whole, not_living}
use Rattle.ll_node.proofs.removal.take.Goals as goal

pub returns-then-unname : goal.returns-then-unname
returns-then-unname c any scene given fits covers =
    let there = inode_there given c.args.at.now c.args.inode fits covers in
    taken_whole given c.args.at.now c.args.inode fits covers c.unname.new.self c.vacate.new.lent
    (c.unname.ensures.table scene.state scene.spares _ given.counted refl fits.holds.child there)
    (c.unname.ensures.inodes scene.state scene.spares given.counted
    ∙ ap (λ b. if b then without_inode c.args.table.now.inodes c.args.inode else c.args.table.now.inodes)
    c.if-unname.true)
    (λ slot lies. c.unname.ensures.free scene.state scene.spares slot given.counted lies
    ∙ ap (λ b. if b then c.args.table.now.free ++ slot ∷ [] else c.args.table.now.free) c.if-unname.true)
    (c.vacate.ensures ∙ ap (map (vacated c.args.inode)) c.take_name.ensures
    ∙ map-map (vacated c.args.inode) (unnamed_in c.args.at.now.directory c.args.at.now.name.now) c.args.lent.now)

pub returns-else-unname : goal.returns-else-unname
returns-else-unname c any scene given fits covers =
    let there = inode_there given c.args.at.now c.args.inode fits covers in
    taken_alone given c.args.at.now c.args.inode fits covers c.unname.new.self c.take_name.new.lent
    (c.unname.ensures.table scene.state scene.spares _ given.counted refl fits.holds.child there)
    (not_living _ _ (c.unname.ensures.goes scene.state scene.spares _ given.counted refl fits.holds.child there)
    c.if-unname.false)
    (c.unname.ensures.inodes scene.state scene.spares given.counted
    ∙ ap (λ b. if b then without_inode c.args.table.now.inodes c.args.inode else c.args.table.now.inodes)
    c.if-unname.false)
    (let slot = its_slot scene.state scene.spares c.args.table.now given.counted c.args.inode there in
    c.unname.ensures.free scene.state scene.spares slot.0 given.counted slot.1
    ∙ ap (λ b. if b then c.args.table.now.free ++ slot.0 ∷ [] else c.args.table.now.free) c.if-unname.false)
    c.take_name.ensures
