use Rattle.std.proofs.Common.{◌≡◌, ℕ, List, subst}
use Rattle.std.specs.Prelude.{IfErr, OnOk}
use Rattle.std.proofs.lemmas.Result.{on_ok_weaker}
use Rattle.ll_seq.specs.declared.reply.Entry.{Entry}
use Rattle.ll_seq.specs.History.{IsLegal}
use Rattle.ll_seq.specs.State.{State, start}
use Rattle.ll_audit.specs.declared.fault.AuditFault.TheVariants.{Illegal}
use Rattle.ll_audit.specs.Audit.{IsFirstIllegal}
use Rattle.ll_audit.proofs.Judged.{gains_nothing, withholds}
use Rattle.ll_audit.proofs.audit.Goals as goal
use Rattle.ll_audit.proofs.audit.Goals.{After-follow}

pub returns-clause-illegal : goal.returns-clause-illegal
returns-clause-illegal c =
    let told : State → List Entry → Type 0 =
    λ s entries. IfErr c.follow.result (λ fault. (number : ℕ) → fault ≡ Illegal number
    → IsFirstIllegal s entries number) in
    subst (told (start c.args.rules c.args.nodes)) c.entries.ensures.entries
    (subst (λ s. told s c.entries.result.now) c.in-Ok.ensures c.follow.ensures.illegal)

legal : (c : After-follow) → OnOk c.follow.result (IsLegal (start c.args.rules c.args.nodes) c.args.history.now.entries)
legal c =
    let told : State → List Entry → Type 0 = λ s entries. OnOk c.follow.result (IsLegal s entries) in
    subst (told (start c.args.rules c.args.nodes)) c.entries.ensures.entries
    (subst (λ s. told s c.entries.result.now) c.in-Ok.ensures c.follow.ensures.legal)

pub returns-clause-reach : goal.returns-clause-reach
returns-clause-reach c = on_ok_weaker c.follow.result
    (gains_nothing c.args.rules c.args.nodes c.args.history.now.entries)
    (legal (goal.at.returns-clause-reach c).After-follow)

pub returns-clause-bytes : goal.returns-clause-bytes
returns-clause-bytes c = on_ok_weaker c.follow.result (withholds c.args.rules c.args.nodes c.args.history.now.entries)
    (legal (goal.at.returns-clause-bytes c).After-follow)
