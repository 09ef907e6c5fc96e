use Rattle.std.proofs.Common.{◌≡◌, ◌∙◌, ◌≤◌, ℕ, ap, arith, subst, sym}
use Rattle.std.specs.Prelude.{length}
use Rattle.ll_rights.specs.Map.{has}
use Rattle.ll_rights.specs.declared.limits.TheConstants.{HISTORY_ENTRIES}
use Rattle.ll_seq.specs.History.{Log}
use Rattle.ll_seq.specs.State.{State}
use Rattle.ll_embed.proofs.Owned.{is_fresh, nobody}
use Rattle.ll_embed.proofs.own_tree.OwnTree.new.Goals as goal

pub returns-clause-fresh : goal.returns-clause-fresh
returns-clause-fresh c = is_fresh c.args.setup.now c.in_ok-plain.plain c.in_ok-history.history c.in_ok-plain.ensures
    c.in_ok-history.ensures

pub invariant_of-result : goal.invariant_of-result
invariant_of-result c =
    let none : length c.in_ok-history.history.entries ≡ 0 =
    ap (λ (l : Log). length l.entries) c.in_ok-history.ensures in
    let next : c.in_ok-plain.plain.next ≡ 2 = ap (λ (z : State). z.next) c.in_ok-plain.ensures in
    record {
      there = λ number first last. absurd (omega (arith, first, last));
      free = λ number more. ap (λ (s : State). has s.clients number) c.in_ok-plain.ensures
          ∙ nobody c.args.setup.now.rules c.args.setup.now.nodes number;
      few = omega arith;
      low = omega (arith, next);
      within = omega (arith, none);
      most = subst (λ (n : ℕ). n ≤ HISTORY_ENTRIES) (sym (ap (λ (l : Log). l.limit) c.in_ok-history.ensures))
          c.args.setup.now.most_entries;
    }
