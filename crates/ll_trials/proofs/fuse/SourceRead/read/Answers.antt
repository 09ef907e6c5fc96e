use Rattle.std.proofs.Common.{arith}
use Rattle.ll_trials.proofs.Devices.{first_byte}
use Rattle.ll_trials.proofs.fuse.SourceRead.read.Goals as goal

pub returns-in-len1-up-clause-bytes : goal.returns-in-len1-up-clause-bytes
returns-in-len1-up-clause-bytes c = (
  first_byte c.args.self.now.rest.now c.args.buf.now c.in-len1-up.len_at_least (omega arith),
  λ e. absurd (omega arith),
)
