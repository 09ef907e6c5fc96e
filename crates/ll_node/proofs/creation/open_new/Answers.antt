use Rattle.ll_node.proofs.OpenedSlots.{described, undescribed, may_make, covers_new, room_new, can_open, opened_new}
use Rattle.ll_node.proofs.creation.open_new.Goals as goal

pub make-requires : goal.make-requires
make-requires c = (c.args.client.now, may_make c.args.opening.now c.requires.0 c.requires.1)

pub returns-in-Err-clause-err : goal.returns-in-Err-clause-err
returns-in-Err-clause-err c = (
  undescribed c.args.client.now c.args.opening.now c.descriptor.result _ _ c.requires.1.fits.free
      c.in_ok-insert.ensures.ok c.remove.ensures,
  c.in-Err.ensures.err.0,
  c.in-Err.ensures.err.1,
  c.in-Err.ensures.err.2,
)

pub open-requires : goal.open-requires
open-requires c =
    let may = c.requires.1 in
    let o = c.args.opening.now in
    can_open may.given o
    (c.in_default.ensures.ok c.args.client.now may.scene may.given
    (room_new may.scene.state c.args.client.now o c.requires.0 may.fits) (covers_new o c.requires.0 may.covers))
    c.next-inode.result c.next-inode.ensures

pub returns-clause-ok : goal.returns-clause-ok
returns-clause-ok c scene given fits covers =
    let o = c.args.opening.now in
    opened_new given o
    (c.in_default.ensures.ok c.args.client.now scene given
    (room_new scene.state c.args.client.now o c.requires.0 fits) (covers_new o c.requires.0 covers))
    c.next-inode.result c.next-inode.ensures c.requires.0 fits _ c.open.new.self
    (described c.args.client.now o c.next-inode.result c.descriptor.result _ c.descriptor.ensures
    c.in_ok-insert.ensures.ok) c.open.ensures.table c.open.ensures.inodes c.open.ensures.free
