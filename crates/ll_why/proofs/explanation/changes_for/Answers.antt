use Rattle.std.proofs.Common.{◌≡◌, sym, subst, ◌∙◌}
use Rattle.std.proofs.lemmas.Result.{IfOk-weaker}
use Rattle.ll_why.specs.Changes.{IsLeastFound}
use Rattle.ll_why.specs.Reasons.{IsWhy}
use Rattle.ll_why.specs.declared.reason.Reason.{Reason}
use Rattle.ll_why.specs.declared.why.Why.{Why}
use Rattle.ll_why.specs.declared.why.Why.TheVariants.{Judged}
use Rattle.ll_why.proofs.explanation.changes_for.Goals as goal

pub returns-in-Judged : goal.returns-in-Judged
returns-in-Judged c = IfOk-weaker c.change_for.result _ _ (λ found least client call domain why reason is kept.
    let s = c.args.tree.now in
    let told = c.in-Judged.reason in
    let both : Judged told ≡ Judged reason = sym c.in-Judged.is ∙ is in
    let same : told ≡ reason = cc in
    let judged : IsWhy s client call (Judged told) = subst (λ (w : Why). IsWhy s client call w) c.in-Judged.is why in
    subst (λ (r : Reason). IsLeastFound c.args.level s client call r.asks found) same
    (least client call (domain ∙ sym c.layers.ensures) kept judged.1.asked)) c.change_for.ensures
