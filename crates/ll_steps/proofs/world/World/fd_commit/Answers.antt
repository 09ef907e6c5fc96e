use Rattle.std.proofs.Common.{◌≡◌, ◌<◌, List, length, Result, IfOk, refl, ap, sym, subst, ◌∙◌, rules}
use Rattle.ll_seq.specs.declared.call.Call.{Call}
use Rattle.ll_seq.specs.declared.reply.Entry.{Entry}
use Rattle.ll_laws.specs.World.{World, NotNow, advance}
use Rattle.ll_laws.specs.declared.step.Step.TheVariants.{FdCommit}
use Rattle.ll_steps.specs.Contents.{answered_as}
use Rattle.ll_steps.specs.Makes.{Makes}
use Rattle.ll_steps.specs.declared.report.Report.{Report}
use Rattle.ll_steps.proofs.DirectMakes.{not_open, file_keeps, answer_makes}
use Rattle.ll_steps.proofs.LentContents.{bound_of, at_index}
use Rattle.ll_steps.proofs.world.World.fd_commit.Goals as goal
use Rattle.ll_steps.proofs.world.World.fd_commit.Goals.{in-Ok, in-Err-NotNow}

pub returns-in_default-file_slot-clause-not_now : goal.returns-in_default-file_slot-clause-not_now
returns-in_default-file_slot-clause-not_now c =
    subst (λ (w : World). advance w (FdCommit c.args.client c.args.call) ≡ (NotNow, w)) c.self.view_is
    (not_open c.self.inside.journal.world c.args.client c.args.call c.in-Some.fd (sym c.in-Some.ensures)
    c.in_default-file_slot.ensures.none)

pub index_mut-file-requires : goal.index_mut-file-requires
index_mut-file-requires c =
    let within : c.in-Some-file_slot.slot < length c.self.inside.slots.items =
    bound_of c.self.inside.journal c.self.inside.slots.items c.in-Some-file_slot.slot c.self.invariant.accounts
    c.in-Some-file_slot.ensures.within in
    search rules

pub fd_commit-requires : goal.fd_commit-requires
fd_commit-requires c = at_index c.self.inside.journal c.self.inside.slots.items c.in-Some-file_slot.slot
    c.index_mut-file.result.now c.self.invariant.accounts c.in-Some-file_slot.ensures.within
    c.index_mut-file.ensures.value

pub invariant_of-self : goal.invariant_of-self
invariant_of-self c =
    file_keeps c.self.inside.journal c.fd_commit.new.self c.self.inside.slots.items c.args.client c.args.call
    c.in-Some-file_slot.slot c.fd_commit.new.file c.fd_commit.result _ c.self.invariant
    c.in-Some-file_slot.ensures.within
    c.fd_commit.ensures.does c.fd_commit.ensures.same c.fd_commit.ensures.lent c.fd_commit.ensures.spares

-- as the outcome is told
pub returns-clause-makes : goal.returns-clause-makes
returns-clause-makes c = subst
    (λ (v : World). IfOk c.match-fd_commit.result
    (λ (o : Report). Makes v (FdCommit c.args.client c.args.call) o c.fd_commit.new.self.world)) c.self.view_is
    (elim c.match-fd_commit.branch [
      | in-Ok w ↦
          subst (λ (r : Result Report Call). IfOk r
          (λ (o : Report). Makes c.self.inside.journal.world (FdCommit c.args.client c.args.call) o
          c.fd_commit.new.self.world)) (sym w.result-is)
          (subst (λ (o : Report). Makes c.self.inside.journal.world (FdCommit c.args.client c.args.call) o
          c.fd_commit.new.self.world)
          (sym (w.answered.ensures
          ∙ ap (λ (es : List Entry). answered_as (length es) w.in-Ok.answer) c.entries.ensures))
          (answer_makes c.self.inside.journal c.fd_commit.new.self (FdCommit c.args.client c.args.call) w.in-Ok.answer
          (λ e. cc e) refl w.in-Ok.ensures.does))
      | in-Err-NotNow w ↦ subst (λ (r : Result Report Call). IfOk r
          (λ (o : Report). Makes c.self.inside.journal.world (FdCommit c.args.client c.args.call) o
          c.fd_commit.new.self.world)) (sym w.result-is) tt
    ])
