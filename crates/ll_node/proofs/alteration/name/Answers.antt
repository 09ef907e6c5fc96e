use Rattle.std.proofs.Common.{refl}
use Rattle.ll_node.proofs.StayingSlots.{directory_lives, named_lives}
use Rattle.ll_node.proofs.NamedSlots.{may_name, named_slots}
use Rattle.ll_node.proofs.alteration.name.Goals as goal

pub name-requires-clause-apart : goal.name-requires-clause-apart
name-requires-clause-apart c = (may_name c.args.at.now c.args.inode c.requires.1).0

pub name-requires-clause-directory : goal.name-requires-clause-directory
name-requires-clause-directory c = (may_name c.args.at.now c.args.inode c.requires.1).1

pub name-requires-clause-takes : goal.name-requires-clause-takes
name-requires-clause-takes c = (may_name c.args.at.now c.args.inode c.requires.1).3

pub returns-clause-ok : goal.returns-clause-ok
returns-clause-ok c any scene given fits covers =
    named_slots given c.args.at.now c.args.inode c.name-2.new.self c.name.new.lent fits covers c.in_ok-name.ensures.ok
    (c.name-2.ensures.table scene.state scene.spares _ given.counted refl
    (directory_lives given c.args.at.now fits.lacks.directory) (named_lives given _ fits.named) fits.lacks.child
    fits.room fits.few_names)
    c.name-2.ensures.inodes c.name-2.ensures.free
