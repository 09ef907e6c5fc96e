use Rattle.std.specs.Prelude.{[], ◌∷◌, ◌++◌, refl, map, if◌then◌else◌}
use Rattle.std.proofs.Common.{ap, ◌∙◌}
use Rattle.std.proofs.lemmas.Simd.{map-map}
use Rattle.ll_node.specs.Lent.{named_in, unnamed_in, vacated}
use Rattle.ll_node.specs.InodeTable.{without_inode}
use Rattle.ll_node.proofs.TableSteps.{its_slot}
use Rattle.ll_node.proofs.ReplacedSlots.{into_there, kept_there, replaced_there, has_replaced, over_table}
use Rattle.ll_node.proofs.ReplacedSlots.{over_lives, put_and_taken, replaced_alone, replaced_whole}
use Rattle.ll_node.proofs.removal.replace.Goals as goal

pub replace_name-requires : goal.replace_name-requires
replace_name-requires c =
    let may = c.requires.1 in
    has_replaced may.given c.args.old.now c.args.new.now c.args.inode c.args.replaced may.fits may.covers

pub returns-then-rename : goal.returns-then-rename
returns-then-rename c any scene given fits covers =
    let old = c.args.old.now in
    let new = c.args.new.now in
    let inode = c.args.inode in
    let gone = c.args.replaced in
    let into = into_there given old new inode gone fits covers in
    let there = kept_there given old new inode gone fits covers in
    replaced_whole given old new inode gone fits covers c.rename.new.self c.vacate.new.lent
    (over_table given old new inode gone fits covers c.rename.new.self
    (c.rename.ensures.table scene.state scene.spares _ _ given.counted refl refl into fits.old.child fits.new.child
    there refl))
    (c.rename.ensures.inodes scene.state scene.spares given.counted
    ∙ ap (λ b. if b then without_inode c.args.table.now.inodes gone else c.args.table.now.inodes) c.if-rename.true)
    (λ slot lies. c.rename.ensures.free scene.state scene.spares slot given.counted lies
    ∙ ap (λ b. if b then c.args.table.now.free ++ slot ∷ [] else c.args.table.now.free) c.if-rename.true)
    (c.vacate.ensures ∙ ap (map (vacated gone))
    (put_and_taken old new inode c.args.lent.now c.replace_name.new.lent c.take_name.new.lent
    c.replace_name.ensures c.take_name.ensures)
    ∙ map-map (vacated gone)
    (λ held. unnamed_in old.directory old.name.now (named_in new.directory new.name.now inode held)) c.args.lent.now)

pub returns-else-rename : goal.returns-else-rename
returns-else-rename c any scene given fits covers =
    let old = c.args.old.now in
    let new = c.args.new.now in
    let inode = c.args.inode in
    let gone = c.args.replaced in
    let into = into_there given old new inode gone fits covers in
    let there = kept_there given old new inode gone fits covers in
    let alive = replaced_there given old new inode gone fits covers in
    replaced_alone given old new inode gone fits covers c.rename.new.self c.take_name.new.lent
    (over_table given old new inode gone fits covers c.rename.new.self
    (c.rename.ensures.table scene.state scene.spares _ _ given.counted refl refl into fits.old.child fits.new.child
    there refl))
    (over_lives given old new inode gone fits covers c.rename.result
    (c.rename.ensures.goes scene.state scene.spares _ _ given.counted refl refl fits.old.child fits.new.child gone refl
    alive) c.if-rename.false)
    (c.rename.ensures.inodes scene.state scene.spares given.counted
    ∙ ap (λ b. if b then without_inode c.args.table.now.inodes gone else c.args.table.now.inodes) c.if-rename.false)
    (let slot = its_slot scene.state scene.spares c.args.table.now given.counted gone alive in
    c.rename.ensures.free scene.state scene.spares slot.0 given.counted slot.1
    ∙ ap (λ b. if b then c.args.table.now.free ++ slot.0 ∷ [] else c.args.table.now.free) c.if-rename.false)
    (put_and_taken old new inode c.args.lent.now c.replace_name.new.lent c.take_name.new.lent
    c.replace_name.ensures c.take_name.ensures)
