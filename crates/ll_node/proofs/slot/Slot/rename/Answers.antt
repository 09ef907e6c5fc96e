use Rattle.std.specs.Prelude.{◌≡◌, ◌++◌, slice_get}
use Rattle.std.proofs.Common.{sym, ap, ◌∙◌, inl}
use Rattle.ll_rights.specs.declared.errno.Errno.TheVariants.{EEXIST}
use Rattle.ll_rights.specs.Errno.{refuse}
use Rattle.ll_rights.specs.Map.{get, has, insert, remove}
use Rattle.ll_node.specs.Slot.{NameMap, Slot, renamed}
use Rattle.ll_node.specs.Held.{names_of, bytes_of}
use Rattle.ll_node.proofs.SlotNames.{none_under, missing_is, renamed_is}
use Rattle.ll_node.proofs.slot.Slot.rename.Goals as goal

pub returns-in-Bytes-clause-refused : goal.returns-in-Bytes-clause-refused
returns-in-Bytes-clause-refused c =
    let names = c.args.self.now.names in
    inl (ap (λ first. slice_get (first ++ refuse (has names c.args.new.now) EEXIST) 0) (missing_is names c.args.old.now
    (none_under names c.args.old.now (ap names_of (sym c.in-Bytes.is)
    ∙ ap (λ (slot : Slot). slot.names) c.self.view_is))))

pub returns-clause-ok : goal.returns-clause-ok
returns-clause-ok c =
    let slot = c.args.self.now in
    let before : c.in-Names.names ≡ slot.names =
    ap names_of (sym c.in-Names.is) ∙ ap (λ (s : Slot). s.names) c.self.view_is in
    let after : c.remove.new.self ≡ renamed slot.names c.args.old.now c.args.new.now =
    renamed_is slot.names c.remove.new.self c.args.old.now c.args.new.now c.in-Some.inode
    (ap (λ (m : NameMap). get m c.args.old.now) (sym before) ∙ sym c.in-Some.ensures)
    (ap (λ (m : NameMap). has m c.args.new.now) (sym before) ∙ sym c.has.ensures ∙ c.if-has.false)
    (c.remove.ensures.left ∙ ap (λ (m : NameMap). remove m c.args.old.now) (c.in-Ok.ensures.ok
    ∙ ap (λ (m : NameMap). insert m c.args.new.now c.in-Some.inode) before)) in
    let with_names : NameMap → Slot → Slot = λ m s. record s { names = m } in
    ap (λ bytes. record {
      kind = c.self.inside.kind;
      names = c.remove.new.self;
      bytes = bytes;
      mark = c.self.inside.mark;
    }) (ap bytes_of (sym c.in-Names.is))
    ∙ ap (with_names c.remove.new.self) c.self.view_is
    ∙ ap (λ m. with_names m slot) after
