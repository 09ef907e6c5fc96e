use Rattle.std.proofs.Common.{true≢false, sym, ap, ◌∙◌}
use Rattle.std.specs.Prelude.{not}
use Rattle.ll_audit.proofs.EntriesThatStand.{Made, stands, followed, told_its_own, opposite}
use Rattle.ll_audit.proofs.entry.may_stand.Goals as goal
use Rattle.ll_audit.proofs.entry.may_stand.Goals.{else-connects-via-then-connects+else-not-is_done}
use Rattle.ll_audit.proofs.entry.may_stand.Goals.{else-connects-via-else-connects, Else-wants_memory}

made : (c : Else-wants_memory)
    → Made c.args.tree.now c.args.entry.now c.fresh_number-fresh.result c.apply-told.result c.apply-told.new.self
made c = record {
  caller = sym c.has_client.ensures
      ∙ opposite c.has_client.result c.is_connect-connects.result c.if-has_client-connects.false
      ∙ ap not c.is_connect-connects.ensures;
  connected = elim c.else-connects.branch [
    | else-connects-via-then-connects+else-not-is_done w ↦ λ connects. w.is_done.ensures.0 w.if-not-is_done.false
    | else-connects-via-else-connects w ↦
        λ connects. absurd (true≢false (sym connects ∙ sym c.is_connect-connects.ensures ∙ w.if-connects.false))
  ];
  own = c.fresh_number-fresh.ensures.told;
  free = sym c.has_client-2.ensures ∙ c.if-has_client.false;
  step = c.apply-told.ensures.step
      (λ starved. true≢false (sym (c.wants_memory.ensures.1 starved) ∙ c.if-wants_memory.false));
}

pub returns-clause-stands : goal.returns-clause-stands
returns-clause-stands c =
    let h = made (goal.at.returns-clause-stands c).Else-wants_memory in
    (λ same. stands _ _ _ _ _ h (c.is.ensures.0 same), λ may. c.is.ensures.1 (told_its_own _ _ _ _ _ h may))

pub returns-clause-after : goal.returns-clause-after
returns-clause-after c = λ same. followed _ _ _ _ _ (made (goal.at.returns-clause-after c).Else-wants_memory)
    (c.is.ensures.0 same)
