use Rattle.std.specs.Prelude.{true, false, refl}
use Rattle.ll_node.proofs.OpenedSlots.{opened, described}
use Rattle.ll_node.proofs.creation.open_there.Goals as goal

pub returns-then-opening-clause-ok : goal.returns-then-opening-clause-ok
returns-then-opening-clause-ok c any scene given fits covers =
    opened given c.args.opening.now c.args.inode c.requires.0 fits covers
    true c.if-opening.true _ c.open.new.self c.clear.new.lent
    (described c.args.client.now c.args.opening.now c.args.inode _ _ c.descriptor.ensures c.in_ok-insert.ensures.ok)
    c.open.ensures.table c.open.ensures.inodes c.open.ensures.free c.clear.ensures

pub returns-else-opening-clause-ok : goal.returns-else-opening-clause-ok
returns-else-opening-clause-ok c any scene given fits covers =
    opened given c.args.opening.now c.args.inode c.requires.0 fits covers
    false c.if-opening.false _ c.open.new.self c.args.lent.now
    (described c.args.client.now c.args.opening.now c.args.inode _ _ c.descriptor.ensures c.in_ok-insert.ensures.ok)
    c.open.ensures.table c.open.ensures.inodes c.open.ensures.free refl
