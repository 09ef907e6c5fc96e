use Rattle.std.specs.Prelude.{◌≡◌, slice_index_or, false, []}
use Rattle.std.proofs.Common.{◌∙◌}
use Rattle.ll_rights.specs.Kind.{is_dir}
use Rattle.ll_node.specs.Refusals.{len_refusals}
use Rattle.ll_seq.proofs.Results.{on_ok}
use Rattle.ll_node.specs.declared.held.Held.{Held}
use Rattle.ll_node.specs.Lent.{resized_in}
use Rattle.ll_node.proofs.OneSlot.{of_slot, no_slot, one_slot}
use Rattle.ll_node.proofs.InSlots.{resized_here, resized_elsewhere}
use Rattle.ll_node.proofs.lent.set_len.Goals as goal

pub returns-in_default-clause-ok : goal.returns-in_default-clause-ok
returns-in_default-clause-ok c =
    no_slot (resized_in c.args.inode c.args.size) c.args.inode (resized_elsewhere c.args.inode c.args.size)
    c.args.lent.now c.in_default.ensures.none

takes : (c : goal.After-index-lent-place)
    → (is_dir (slice_index_or c.args.lent.now c.in-Some.place c.index-lent-place.result).node.kind ≡ false)
    × (len_refusals c.args.size ≡ [])
takes c =
    of_slot (λ (held : Held). (is_dir held.node.kind ≡ false) × (len_refusals c.args.size ≡ []))
    c.args.inode c.args.lent.now c.in-Some.place c.index-lent-place.result c.requires.takes c.in-Some.ensures.some

pub set_len-requires-clause-file : goal.set_len-requires-clause-file
set_len-requires-clause-file c = (takes c).0

pub set_len-requires-clause-takes : goal.set_len-requires-clause-takes
set_len-requires-clause-takes c = (takes c).1

pub returns-clause-ok : goal.returns-clause-ok
returns-clause-ok c =
    let held = slice_index_or c.args.lent.now c.in-Some.place c.index-lent-place.result in
    on_ok c.set_len.result c.set_len.ensures.ok (λ put.
    one_slot (resized_in c.args.inode c.args.size) c.args.inode (resized_elsewhere c.args.inode c.args.size)
    c.requires.inode
    c.args.lent.now c.in-Some.place c.set_len.new.self c.index-lent-place.result c.requires.apart c.in-Some.ensures.some
    (λ same. put ∙ resized_here c.args.inode c.args.size held same))
