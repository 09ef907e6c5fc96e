use Rattle.std.proofs.Common.{refl}
use Rattle.ll_decide.proofs.Sets.{gains_at}
use Rattle.ll_decide.proofs.judge.Granted.gains.Goals as goal

pub returns : goal.returns
returns c right place known =
    gains_at c.args.self.now c.args.demands.now c.args.layer right _ c.had-there.result.0 c.had-back.result.0 refl
    (c.had-there.ensures right) (c.missing-2.ensures right known) (c.had-back.ensures right)
    (c.missing.ensures right known) place
