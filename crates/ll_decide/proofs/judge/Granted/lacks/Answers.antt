use Rattle.ll_decide.proofs.Sets.{lacks_at}
use Rattle.ll_decide.proofs.judge.Granted.lacks.Goals as goal

pub returns : goal.returns
returns c right place known =
    lacks_at c.args.self.now c.args.demands.now c.args.layer right _ c.missing-itself.result.0 c.missing-parent.result.0
    c.missing-other.result.0 c.missing-entered.result.0
    c.with.ensures c.with-2.ensures (c.missing-itself.ensures right known) (c.missing-parent.ensures right known)
    (c.missing-left.ensures right known) (c.missing-other.ensures right known)
    (c.missing-entered.ensures right known) place
