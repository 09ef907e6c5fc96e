use Rattle.std.proofs.Common.{ap, sym, subst, arith, length}
use Rattle.ll_seq.specs.Listed.{IsData}
use Rattle.ll_seq.specs.Step.{IsAnswer}
use Rattle.ll_seq.proofs.reply.Reply.by_type.Goals as goal

pub returns-in-Bytes : goal.returns-in-Bytes
returns-in-Bytes c = λ other.
    let short = c.as_slice.ensures.short in
    let same = ap length c.as_slice.ensures.bytes in
    subst IsAnswer (sym c.in-Bytes.is) (subst IsData c.as_slice.ensures.bytes (c.fit.ensures, omega arith))
