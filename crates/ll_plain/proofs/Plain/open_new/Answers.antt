use Rattle.std.proofs.Common.{◌≡◌, None, ap, is_some, sym, ◌∙◌, arith}
use Rattle.std.specs.Cmp.{nat_cmp_total}
use Rattle.std.specs.FinMap.{nat_cmp-IsAntisymmetric}
use Rattle.ll_rights.specs.declared.kind.Kind.TheVariants.{Reg}
use Rattle.ll_rights.specs.Map.{get, has}
use Rattle.ll_rights.proofs.Maps.{get-insert_same}
use Rattle.ll_seq.specs.declared.client.Descriptor.{Descriptor}
use Rattle.ll_seq.specs.declared.dentries.Dentry.{Dentry}
use Rattle.ll_seq.specs.State.{State, empty_node}
use Rattle.ll_seq.specs.Effects.{with_node}
use Rattle.ll_seq.proofs.DentryOrder.{dentry_total, dentry_exact}
use Rattle.ll_seq.specs.Effect.{dentry_at}
use Rattle.ll_plain.specs.contracts.Plain.{the_view}
use Rattle.ll_plain.proofs.Tied.{as_before}
use Rattle.ll_plain.proofs.Plain.open_new.Goals as goal

pub take-requires-clause-there : goal.take-requires-clause-there
take-requires-clause-there c =
    let before : State = the_view c.self.inside in
    ap (λ (d : Descriptor). has c.add.new.self.nodes d.inode) c.descriptor.ensures
    ∙ ap (λ (z : State). has z.nodes before.next) (c.in_ok-add.ensures.ok
    ∙ ap (λ z. with_node z Reg (dentry_at c.args.opening.now.at)) (sym c.self.view_is))
    ∙ ap is_some (get-insert_same nat_cmp_total nat_cmp-IsAntisymmetric before.nodes before.next (empty_node Reg))

pub take_name-requires : goal.take_name-requires
take_name-requires c =
    let before : State = the_view c.self.inside in
    let place : Dentry = dentry_at c.args.opening.now.at in
    ap (λ (z : State). get z.entries place) (c.in-Err.ensures.err ∙ c.in_ok-add.ensures.ok
    ∙ ap (λ z. with_node z Reg place) (sym c.self.view_is))
    ∙ get-insert_same dentry_total dentry_exact before.entries place before.next

pub invariant_of-self : goal.invariant_of-self
invariant_of-self c =
    let before : State = the_view c.self.inside in
    let place : Dentry = dentry_at c.args.opening.now.at in
    let free : get before.entries place ≡ None =
    ap (λ (z : State). get z.entries place) c.self.view_is ∙ c.requires.room.lacks.child in
    (as_before before c.self.invariant.nodes (c.self.invariant.kept.unused before.next (omega arith)) Reg place free
    c.take.new.self (the_view c.self-in-Err.inside) c.self-in-Err.inside.facts
    (c.in-Err.ensures.err ∙ c.in_ok-add.ensures.ok ∙ ap (λ z. with_node z Reg place) (sym c.self.view_is))
    (c.self-in-Err.view_is ∙ c.take_name.ensures) c.self-in-Err.invariant).1

pub returns-in-Err-clause-err : goal.returns-in-Err-clause-err
returns-in-Err-clause-err c =
    let before : State = the_view c.self.inside in
    let place : Dentry = dentry_at c.args.opening.now.at in
    let free : get before.entries place ≡ None =
    ap (λ (z : State). get z.entries place) c.self.view_is ∙ c.requires.room.lacks.child in
    (as_before before c.self.invariant.nodes (c.self.invariant.kept.unused before.next (omega arith)) Reg place free
    c.take.new.self (the_view c.self-in-Err.inside) c.self-in-Err.inside.facts
    (c.in-Err.ensures.err ∙ c.in_ok-add.ensures.ok ∙ ap (λ z. with_node z Reg place) (sym c.self.view_is))
    (c.self-in-Err.view_is ∙ c.take_name.ensures) c.self-in-Err.invariant).0
    ∙ c.self.view_is
