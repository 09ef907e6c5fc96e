use Rattle.std.proofs.Common.{List, ℕ, ◌≤◌, ◌+◌, sym, subst, ◌∙◌}
use Rattle.ll_rights.specs.declared.limits.TheConstants.{TREE_CLIENTS, TREE_NODES}
use Rattle.ll_client.specs.Hands.{AreLent}
use Rattle.ll_client.proofs.Accounts.{accounts_kept}
use Rattle.ll_client.proofs.Leavings.{left_steps}
use Rattle.ll_client.proofs.leave.leave_last.Goals as goal

pub returns-clause-lent : goal.returns-clause-lent
returns-clause-lent g c =
    let before = c.args.journal.now in
    let after = c.leave_with.new.journal in
    let client = c.args.exit.client in
    let numbers = c.args.lent.now.numbers.items in
    let told = c.leave_with.ensures in
    let lent = c.requires.lent in
    let out = told.only.out numbers lent.out in
    let alone = told.only.clients client ∙ lent.alone in
    subst (λ ns. AreLent after c.leave_with.new.keeper client ns c.leave_with.new.lent.held.items)
    (sym {A = List ℕ} told.numbers)
    (record {
      all = accounts_kept before after client numbers c.leave_with.new.keeper told.left.spares
          (left_steps c.args.exit.leaving before after client c.leave_with.result c.requires.sound c.requires.within
          told.left.leaves).moved out alone told.all;
      few = subst (λ k. k ≤ TREE_NODES + TREE_CLIENTS) (sym {A = ℕ} told.left.spares.size) lent.few;
      distinct = lent.distinct;
      out = out;
      alone = alone;
      held_is = told.lent;
    })
