use Rattle.std.specs.Prelude.{◌≡◌, ℕ, slice_index_or, true, [], Some, map}
use Rattle.std.proofs.Common.{ap, ◌∙◌}
use Rattle.ll_rights.specs.Kind.{is_dir}
use Rattle.ll_rights.specs.Map.{get}
use Rattle.ll_node.specs.Refusals.{rename_refusals}
use Rattle.ll_seq.specs.State.{Name}
use Rattle.ll_seq.proofs.Results.{on_ok}
use Rattle.ll_node.specs.declared.held.Held.{Held}
use Rattle.ll_node.specs.Lent.{named_in, unnamed_in}
use Rattle.ll_node.proofs.OneSlot.{of_slot, no_slot, one_slot}
use Rattle.ll_node.proofs.InSlots.{moved_elsewhere, moved_within, moved_between}
use Rattle.ll_node.proofs.lent.move_name.Goals as goal

pub returns-then-from-into-clause-ok : goal.returns-then-from-into-clause-ok
returns-then-from-into-clause-ok c =
    c.take_name.ensures
    ∙ ap (map (unnamed_in c.args.from c.args.old.now)) c.in_ok-name.ensures.ok
    ∙ moved_between c.args.from c.args.old.now c.args.into c.args.new.now c.args.inode c.if-from-into.true
    c.args.lent.now

pub returns-in_default-clause-ok : goal.returns-in_default-clause-ok
returns-in_default-clause-ok c =
    no_slot (λ held. named_in c.args.into c.args.new.now c.args.inode (unnamed_in c.args.from c.args.old.now held))
    c.args.from
    (moved_elsewhere c.args.from c.args.old.now c.args.into c.args.new.now c.args.inode c.if-from-into.false)
    c.args.lent.now c.in_default.ensures.none

-- that the old name's place takes the new one
abbrev Renames : Name → Name → ℕ → Held → Type 0
Renames old new inode held = (is_dir held.node.kind ≡ true) × (rename_refusals held.node.names old new ≡ [])
    × (get held.node.names old ≡ Some inode)

pub rename-requires-clause-takes : goal.rename-requires-clause-takes
rename-requires-clause-takes c =
    (of_slot (Renames c.args.old.now c.args.new.now c.args.inode) c.args.from c.args.lent.now c.in-Some.place
    c.index-lent-place.result (c.requires.within c.if-from-into.false) c.in-Some.ensures.some).1

pub returns-clause-ok : goal.returns-clause-ok
returns-clause-ok c =
    let held = slice_index_or c.args.lent.now c.in-Some.place c.index-lent-place.result in
    let renames = of_slot (Renames c.args.old.now c.args.new.now c.args.inode) c.args.from c.args.lent.now
    c.in-Some.place c.index-lent-place.result (c.requires.within c.if-from-into.false) c.in-Some.ensures.some in
    on_ok c.rename.result c.rename.ensures.ok (λ put.
    one_slot (λ held. named_in c.args.into c.args.new.now c.args.inode (unnamed_in c.args.from c.args.old.now held))
    c.args.from
    (moved_elsewhere c.args.from c.args.old.now c.args.into c.args.new.now c.args.inode c.if-from-into.false)
    c.requires.directories.0
    c.args.lent.now c.in-Some.place c.rename.new.self c.index-lent-place.result c.requires.apart c.in-Some.ensures.some
    (λ lies. put ∙ moved_within c.args.from c.args.old.now c.args.into c.args.new.now c.args.inode c.if-from-into.false
    held renames.2 lies))
