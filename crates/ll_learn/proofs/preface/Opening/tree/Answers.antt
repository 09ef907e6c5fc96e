use Rattle.std.proofs.Common.{◌≡◌, ◌≤◌, ◌+◌, ◌∙◌, ℕ, List, ap, arith, length, refl, subst, sym}
use Rattle.ll_seq.specs.declared.reply.Entry.{Entry}
use Rattle.ll_seq.specs.History.{state_after}
use Rattle.ll_seq.specs.State.{State, start}
use Rattle.ll_seq.specs.declared.rules.Rules.{Rules}
use Rattle.ll_audit.specs.Audit.{IsFirstIllegal}
use Rattle.ll_audit.specs.Saved.{opened}
use Rattle.ll_audit.specs.declared.fault.AuditFault.{AuditFault}
use Rattle.ll_audit.specs.declared.fault.AuditFault.TheVariants as audit
use Rattle.ll_audit.proofs.FollowedParts.{next_after}
use Rattle.ll_learn.specs.declared.fault.Unlearned.{Unlearned}
use Rattle.ll_learn.specs.Preface.{IsUnopened, unopened_by}
use Rattle.ll_learn.proofs.preface.Opening.tree.Goals as goal

pub returns-in-Ok-follow-clause-next : goal.returns-in-Ok-follow-clause-next
returns-in-Ok-follow-clause-next c =
    let header = c.args.self.now.header.now in
    let entries = c.args.self.now.early.now in
    let s = opened header in
    let new : c.in-Ok.tree ≡ s = c.in-Ok.ensures ∙ ap (λ (r : Rules). start r header.nodes) c.rules.ensures in
    let grown : (state_after s entries).next ≤ 2 + length entries = next_after s entries in
    let is : c.follow.new.tree.next ≡ (state_after s entries).next =
    ap (λ (t : State). t.next) c.in-Ok-follow.ensures.after
    ∙ ap (λ (t : State). (state_after t entries).next) new in
    omega (arith, grown, is)

-- what is told of an audit's fault
told : (s : State) (early : List Entry) (history : ℕ) (fault : AuditFault)
    → ((number : ℕ) → fault ≡ audit.Illegal number → IsFirstIllegal s early number)
    → IsUnopened s early history (unopened_by history fault)
told s early history (audit.Illegal number) is = (refl, is number refl)
told s early history audit.NoMemory is = tt

pub returns-in-Err-clause-fault : goal.returns-in-Err-clause-fault
returns-in-Err-clause-fault c =
    let header = c.args.self.now.header.now in
    let entries = c.args.self.now.early.now in
    let new : c.in-Ok.tree ≡ opened header =
    c.in-Ok.ensures ∙ ap (λ (r : Rules). start r header.nodes) c.rules.ensures in
    subst (λ (f : Unlearned). IsUnopened (opened header) entries c.args.history f) (sym c.unopened.ensures)
    (told (opened header) entries c.args.history c.in-Err.fault (λ number is. subst
    (λ (t : State). IsFirstIllegal t entries number) new (c.in-Err.ensures.illegal number is)))
