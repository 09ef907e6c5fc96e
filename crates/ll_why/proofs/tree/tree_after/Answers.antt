use Rattle.std.proofs.Common.{◌≡◌, ◌≤◌, ◌+◌, ap, ◌∙◌, arith, length}
use Rattle.ll_seq.specs.History.{state_after}
use Rattle.ll_seq.specs.State.{State}
use Rattle.ll_audit.specs.Saved.{opened}
use Rattle.ll_audit.proofs.FollowedParts.{next_after}
use Rattle.ll_why.proofs.tree.tree_after.Goals as goal

pub returns-in-Ok-clause-next : goal.returns-in-Ok-clause-next
returns-in-Ok-clause-next c =
    let entries = c.args.entries.now in
    let grown : (state_after (opened c.args.header.now) entries).next ≤ 2 + length entries =
    next_after (opened c.args.header.now) entries in
    let is : c.follow.new.tree.next ≡ (state_after (opened c.args.header.now) entries).next =
    ap (λ (s : State). s.next) c.in-Ok.ensures.after
    ∙ ap (λ (s : State). (state_after s entries).next) c.in_ok-tree.ensures in
    omega (arith, grown, is)
