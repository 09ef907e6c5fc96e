use Rattle.std.proofs.Common.{◌≡◌, ℕ, ◌≤◌, ◌+◌, ◌∙◌, true, false, refl, ap, subst}
use Rattle.ll_rights.specs.Map.{empty, checked, entries, get, insert, has}
use Rattle.ll_seq.specs.declared.call.Call.TheVariants.{Connect}
use Rattle.ll_seq.specs.declared.reply.Reply.{Reply}
use Rattle.ll_seq.specs.declared.rules.Rules.{Rules}
use Rattle.ll_seq.specs.State.{State, start}
use Rattle.ll_seq.specs.Step.{step}
use Rattle.ll_trials.proofs.plain.Yard.new.Goals as goal

nobody : (rules : Rules) (nodes number : ℕ) → has (start rules nodes).clients number ≡ false
unfolding empty get
nobody rules nodes number = refl

somebody : (rules : Rules) (nodes : ℕ) → has ((step (start rules nodes) 1 Connect 2).1).clients 1 ≡ true
unfolding empty checked entries get insert
somebody rules nodes = refl

pub apply-requires-clause-caller : goal.apply-requires-clause-caller
apply-requires-clause-caller c = ap (λ (s : State). has s.clients 1) c.in_ok-tree.ensures ∙ nobody c.args.rules 64 1

pub invariant_of-result : goal.invariant_of-result
invariant_of-result c =
    let after = ap (λ (p : Reply × State). p.1) (c.in-Done.ensures.step (λ e. absurd cc)
    ∙ ap (λ (s : State). step s 1 Connect 2) c.in_ok-tree.ensures) in
    record {
      connected = ap (λ (s : State). has s.clients 1) after ∙ somebody c.args.rules 64;
      numbers = subst (λ (s : State). c.apply.new.self.next ≤ s.next + 1) c.in_ok-tree.ensures
          c.in-Done.ensures.numbers;
    }
