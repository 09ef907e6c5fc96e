use Rattle.std.proofs.Common.{ap, ◌∙◌}
use Rattle.ll_seq.specs.Near as near
use Rattle.ll_seq.specs.declared.found.Spot.{Spot}
use Rattle.ll_journal.specs.Checks.{found_last}
use Rattle.ll_journal.proofs.LastNodes.{same_made}
use Rattle.ll_journal.proofs.check_commit.may_make.Goals as goal

pub returns : goal.returns
returns c =
    c.may_make_at.ensures
    ∙ ap (λ (last : Spot). near.may_make c.args.call.now (found_last last)) c.last_of.ensures
    ∙ same_made c.args.call.now c.args.found.now
