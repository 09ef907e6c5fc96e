use Rattle.std.proofs.Common.{sym}
use Rattle.ll_rights.specs.Right.{refer}
use Rattle.ll_decide.specs.Search.{fails, layers_of}
use Rattle.ll_decide.specs.declared.denial.Cause.TheVariants.{EXDEV}
use Rattle.ll_decide.specs.declared.judge.Reason.TheVariants.{Lacks}
use Rattle.ll_decide.proofs.Sets.{none_denied_of}
use Rattle.ll_decide.proofs.judge.Granted.first_refer.Goals as goal

pub returns-then-not-asks_refer : goal.returns-then-not-asks_refer
returns-then-not-asks_refer c =
    sym (none_denied_of EXDEV (layers_of c.args.self.now) refer (fails c.args.self.now c.args.demands.now Lacks)
    (c.asks_refer.ensures c.if-not-asks_refer.true c.args.self.now))
