use Rattle.std.specs.Prelude.{map, slice_set, refl}
use Rattle.std.proofs.Common.{ap, ◌∙◌}
use Rattle.ll_seq.specs.Effect.{dentry_at}
use Rattle.ll_node.specs.Lent.{named_in, unnamed_in, filled}
use Rattle.ll_node.proofs.MadeSlots.{all_back, few_nodes, lent_lacks, lent_takes, listed, made, not_crowded}
use Rattle.ll_node.proofs.MadeSlots.{spare_within}
use Rattle.ll_node.proofs.StayingSlots.{directory_lives, directory_some, given_apart}
use Rattle.ll_node.proofs.creation.make.Goals as goal

pub name-requires-clause-apart : goal.name-requires-clause-apart
name-requires-clause-apart c = given_apart c.requires.1.given

pub name-requires-clause-directory : goal.name-requires-clause-directory
name-requires-clause-directory c =
    directory_some c.requires.1.given c.args.at.now c.requires.1.fits.lacks.directory

pub name-requires-clause-takes : goal.name-requires-clause-takes
name-requires-clause-takes c = lent_takes c.requires.1.given c.args.at.now c.args.kind c.requires.1.fits

pub make-requires-clause-slot : goal.make-requires-clause-slot
make-requires-clause-slot c = spare_within c.requires.1.given

pub returns-in-Err-clause-err : goal.returns-in-Err-clause-err
returns-in-Err-clause-err c = (
  refl,
  c.in-Err.ensures.err,
  c.take_name.ensures
      ∙ ap (map (unnamed_in c.args.at.now.directory c.args.at.now.name.now)) c.in_ok-name.ensures.ok
      ∙ all_back c.args.at.now.directory c.args.at.now.name.now c.next-inode.result c.args.lent.now
      (lent_lacks c.requires.1.given c.args.at.now c.args.kind c.requires.1.fits),
)

pub returns-in-Some-clause-ok : goal.returns-in-Some-clause-ok
returns-in-Some-clause-ok c client scene given fits covers =
    made given c.args.at.now c.args.kind fits covers
    c.in-Ok.fresh c.make.new.self c.fill.new.lent c.in-Some.place
    (c.in-Ok.ensures.table scene.state scene.spares scene.place (dentry_at c.args.at.now) given.counted given.kept refl
    (directory_lives given c.args.at.now fits.lacks.directory) fits.lacks.child
    (not_crowded given c.args.at.now c.args.kind fits) (few_nodes given c.args.at.now c.args.kind fits))
    c.in-Ok.ensures.inodes c.in-Ok.ensures.free
    c.in-Some.ensures.some
    (c.fill.ensures
    ∙ ap (λ l. slice_set l c.in-Some.place (filled c.next-inode.result c.args.kind)) c.in_ok-name.ensures.ok
    ∙ ap (λ i. slice_set (map (named_in c.args.at.now.directory c.args.at.now.name.now i) c.args.lent.now)
    c.in-Some.place (filled i c.args.kind)) c.next-inode.ensures)

pub returns-in_default-clause-ok : goal.returns-in_default-clause-ok
returns-in_default-clause-ok c client scene given fits covers =
    absurd (listed c.args.spare.now c.args.slots.now (covers.new refl) c.args.spare.now c.in_default.ensures.none refl)
