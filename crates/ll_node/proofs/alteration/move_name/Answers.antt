use Rattle.std.proofs.Common.{ap, refl, ◌∙◌}
use Rattle.std.specs.Prelude.{if◌then◌else◌}
use Rattle.ll_node.specs.InodeTable.{without_inode}
use Rattle.ll_node.proofs.StayingSlots.{directory_lives}
use Rattle.ll_node.proofs.MovedSlots.{may_move, moves_between, moves_within, moved_slots}
use Rattle.ll_node.proofs.alteration.move_name.Goals as goal

pub move_name-requires-clause-apart : goal.move_name-requires-clause-apart
move_name-requires-clause-apart c = (may_move c.args.old.now c.args.new.now c.args.inode c.requires.1).0

pub move_name-requires-clause-directories : goal.move_name-requires-clause-directories
move_name-requires-clause-directories c = (may_move c.args.old.now c.args.new.now c.args.inode c.requires.1).1

pub move_name-requires-clause-takes : goal.move_name-requires-clause-takes
move_name-requires-clause-takes c = moves_between c.args.old.now c.args.new.now c.args.inode c.requires.1

pub move_name-requires-clause-within : goal.move_name-requires-clause-within
move_name-requires-clause-within c = moves_within c.args.old.now c.args.new.now c.args.inode c.requires.1

pub returns-clause-ok : goal.returns-clause-ok
returns-clause-ok c any scene given fits covers =
    moved_slots given c.args.old.now c.args.new.now c.args.inode c.rename.new.self c.move_name.new.lent fits covers
    c.in_ok-move_name.ensures.ok
    (c.rename.ensures.table scene.state scene.spares _ _ given.counted refl refl
    (directory_lives given c.args.new.now fits.new.directory) fits.old.child fits.new.child
    (λ node e. absurd (cc e)) fits.room)
    (c.rename.ensures.inodes scene.state scene.spares given.counted
    ∙ ap (λ b. if b then without_inode c.args.table.now.inodes 0 else c.args.table.now.inodes)
    (c.rename.ensures.stays refl))
    (c.rename.ensures.still refl)
