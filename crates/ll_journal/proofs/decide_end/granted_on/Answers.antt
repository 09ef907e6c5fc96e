use Rattle.std.proofs.Common.{ap, subst, sym, ◌∙◌}
use Rattle.ll_path.specs.Path.{is_root}
use Rattle.ll_path.specs.declared.target.Target.{Target}
use Rattle.ll_seq.specs.Call.{path_of}
use Rattle.ll_journal.specs.Performed.{IsEndAt}
use Rattle.ll_journal.proofs.DecidedCalls.{granted_below}
use Rattle.ll_journal.proofs.decide_end.granted_on.Goals as goal

pub returns-in-Good-clause-masks : goal.returns-in-Good-clause-masks
returns-in-Good-clause-masks c s stands end =
    granted_below s c.args.domain.now (path_of c.args.target.now) c.args.spot.now c.copy.result
    (subst (IsEndAt s c.args.domain.now (path_of c.args.target.now) c.args.spot.now) (sym c.copy.ensures) end)
    (ap (λ (t : Target). is_root (path_of t)) c.in-Good.is ∙ sym c.is_root.ensures ∙ c.if-not-is_root.true)
    c.named.result (c.named.ensures.stands s (path_of c.args.target.now) stands) c.granted_at.result
    c.granted_at.ensures.masks
