use Rattle.std.proofs.Common.{◌≡◌, ℕ, length, ap, subst, ◌∙◌}
use Rattle.std.proofs.lemmas.Result.{IfOk-weaker}
use Rattle.ll_seq.specs.History.{state_after}
use Rattle.ll_seq.specs.State.{State}
use Rattle.ll_seq.specs.declared.call.Call.{Call}
use Rattle.ll_seq.specs.declared.call.Call.TheVariants.{Truncate}
use Rattle.ll_seq.specs.declared.rules.Rules.{Rules}
use Rattle.ll_audit.specs.Saved.{opened}
use Rattle.ll_why.specs.Explained.{IsExplained}
use Rattle.ll_why.specs.Opener.{opening_text}
use Rattle.ll_why.proofs.opener.text_on.Goals as goal

pub returns : goal.returns
returns c =
    let o = c.args.opening.now in
    let e = o.last.now in
    let truncate : c.in_ok-truncate.truncate ≡ Truncate o.target.now 0 = c.in_ok-truncate.ensures in
    IfOk-weaker c.text_in-text.result _ _ (λ text told. record {
      target = o.target.now;
      told = told.0;
      opens = c.requires.target;
      explained = subst (λ (n : ℕ). IsExplained n (state_after (opened c.args.header.now) o.upto.now) e.client
          (Truncate o.target.now 0) told.0) (ap (λ (r : Rules). r.abi) c.rules-level.ensures)
          (subst (λ (z : State). IsExplained c.rules-level.result.abi z e.client (Truncate o.target.now 0) told.0)
          c.in-Ok.ensures.tree
          (subst (λ (call : Call). IsExplained c.rules-level.result.abi c.in-Ok.tree e.client call told.0) truncate
          told.1));
      is = told.2 ∙ ap (λ (call : Call). opening_text c.args.style (length o.upto.now) e call told.0) truncate;
    }) c.text_in-text.ensures
