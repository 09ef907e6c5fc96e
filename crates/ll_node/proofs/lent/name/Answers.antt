use Rattle.std.specs.Prelude.{◌≡◌, slice_index_or, true, []}
use Rattle.std.proofs.Common.{◌∙◌}
use Rattle.ll_rights.specs.Kind.{is_dir}
use Rattle.ll_node.specs.Refusals.{insert_refusals}
use Rattle.ll_seq.proofs.Results.{on_ok}
use Rattle.ll_node.specs.declared.held.Held.{Held}
use Rattle.ll_node.specs.Lent.{named_in}
use Rattle.ll_node.proofs.OneSlot.{of_slot, no_slot, one_slot}
use Rattle.ll_node.proofs.InSlots.{named_here, named_elsewhere}
use Rattle.ll_node.proofs.lent.name.Goals as goal

pub returns-in_default-clause-ok : goal.returns-in_default-clause-ok
returns-in_default-clause-ok c =
    no_slot (named_in c.args.directory c.args.name.now c.args.inode) c.args.directory
    (named_elsewhere c.args.directory c.args.name.now c.args.inode) c.args.lent.now c.in_default.ensures.none

takes : (c : goal.After-index-lent-place)
    → (is_dir (slice_index_or c.args.lent.now c.in-Some.place c.index-lent-place.result).node.kind ≡ true)
    × (insert_refusals (slice_index_or c.args.lent.now c.in-Some.place c.index-lent-place.result).node.names
    c.args.name.now ≡ [])
takes c =
    of_slot (λ (held : Held). (is_dir held.node.kind ≡ true) × (insert_refusals held.node.names c.args.name.now ≡ []))
    c.args.directory c.args.lent.now c.in-Some.place c.index-lent-place.result c.requires.takes c.in-Some.ensures.some

pub name-requires-clause-directory : goal.name-requires-clause-directory
name-requires-clause-directory c = (takes c).0

pub name-requires-clause-takes : goal.name-requires-clause-takes
name-requires-clause-takes c = (takes c).1

pub returns-clause-ok : goal.returns-clause-ok
returns-clause-ok c =
    let held = slice_index_or c.args.lent.now c.in-Some.place c.index-lent-place.result in
    on_ok c.name.result c.name.ensures.ok (λ put.
    one_slot (named_in c.args.directory c.args.name.now c.args.inode) c.args.directory
    (named_elsewhere c.args.directory c.args.name.now c.args.inode) c.requires.directory
    c.args.lent.now c.in-Some.place c.name.new.self c.index-lent-place.result c.requires.apart c.in-Some.ensures.some
    (λ same. put ∙ named_here c.args.directory c.args.name.now c.args.inode held same))
