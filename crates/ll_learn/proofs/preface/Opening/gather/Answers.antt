use Rattle.std.proofs.Common.{List, arith, drop, length, subst, sym}
use Rattle.ll_seq.specs.declared.reply.Entry.{Entry}
use Rattle.ll_seq.specs.History.{state_after}
use Rattle.ll_seq.specs.State.{State}
use Rattle.ll_audit.specs.Saved.{opened}
use Rattle.ll_learn.specs.declared.fault.Unlearned.{Unlearned}
use Rattle.ll_learn.specs.Faults.{IsFault}
use Rattle.ll_learn.specs.Preface.{Gathers, IsUnlearnedOf}
use Rattle.ll_learn.proofs.ManyParts.{none_outside}
use Rattle.ll_learn.proofs.Hindrances.{number_within, of_err, of_late, of_unbegun, of_unopened}
use Rattle.ll_learn.proofs.preface.Opening.gather.Goals as goal

pub returns-in-Ok-clause-gathers : goal.returns-in-Ok-clause-gathers
returns-in-Ok-clause-gathers c =
    let client = c.args.self.now.client in
    let late = c.in_ok-late.late.now in
    let s = c.in_ok-tree.tree in
    let old = c.args.needs.now in
    let new = c.add.new.self in
    subst (λ (t : State). Gathers t client (drop (length c.args.self.now.early.now) c.args.entries.now) old new)
    c.in_ok-tree.ensures.tree
    (subst (λ (es : List Entry). Gathers s client es old new) c.in_ok-late.ensures.late (record {
      learnable = c.in-Ok.ensures.learnable;
      adds = c.in-Ok.ensures.adds;
      rooted = c.in-Ok.ensures.rooted;
      paths = c.in-Ok.ensures.paths;
      moves = c.in-Ok.ensures.moves;
      outside = none_outside client c.args.history late old new c.in-Ok.ensures.outside;
    }))

pub returns-in_err-late-clause-fault : goal.returns-in_err-late-clause-fault
returns-in_err-late-clause-fault c =
    let s = opened c.args.self.now.header.now in
    let early = c.args.self.now.early.now in
    let client = c.args.self.now.client in
    let number = c.args.history in
    let es = c.args.entries.now in
    let f = c.in_err-late.field-0.0 in
    of_err c.from_residual.result f (IsUnlearnedOf s early client number es) c.from_residual.ensures.1
    (of_unbegun s early client number es f c.in_err-late.ensures.fault)

pub returns-in_err-tree-clause-fault : goal.returns-in_err-tree-clause-fault
returns-in_err-tree-clause-fault c =
    let s = opened c.args.self.now.header.now in
    let early = c.args.self.now.early.now in
    let client = c.args.self.now.client in
    let number = c.args.history in
    let es = c.args.entries.now in
    let f = c.in_err-tree.field-0.0 in
    of_err c.from_residual-in_err-tree.result f (IsUnlearnedOf s early client number es)
    c.from_residual-in_err-tree.ensures.1
    (of_unopened s early client number es c.in_ok-late.ensures.begins f c.in_err-tree.ensures.fault)

pub fault-requires : goal.fault-requires
fault-requires c =
    let long = c.in_ok-late.ensures.len in
    let few = number_within c.in_ok-tree.tree c.args.self.now.client c.in_ok-late.late.now c.in-Err.fault
    c.in-Err.ensures.fault in
    omega (arith, long, few)

pub returns-clause-fault : goal.returns-clause-fault
returns-clause-fault c =
    let s = opened c.args.self.now.header.now in
    let early = c.args.self.now.early.now in
    let client = c.args.self.now.client in
    let number = c.args.history in
    let es = c.args.entries.now in
    let is : IsFault (state_after s early) client (drop (length early) es) c.in-Err.fault =
    subst (λ (t : State). IsFault t client (drop (length early) es) c.in-Err.fault) c.in_ok-tree.ensures.tree
    (subst (λ (l : List Entry). IsFault c.in_ok-tree.tree client l c.in-Err.fault) c.in_ok-late.ensures.late
    c.in-Err.ensures.fault) in
    subst (λ (f : Unlearned). IsUnlearnedOf s early client number es f) (sym c.fault.ensures)
    (of_late s early client number es c.in_ok-late.ensures.begins c.in_ok-tree.ensures.legal c.in-Err.fault is)
