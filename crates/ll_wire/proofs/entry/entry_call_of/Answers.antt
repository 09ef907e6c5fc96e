use Rattle.std.proofs.Common.{[], inr, refl, arith, rules, codes}
use Rattle.ll_wire.proofs.EntryTokens.{one_is}
use Rattle.ll_wire.proofs.entry.entry_call_of.Goals as goal

pub returns : goal.returns
returns c = (
  inr refl,
  one_is c.args.tokens.now (record { ref_ptr = (0, 0); now = [] }) (codes "connect") (omega arith)
      (search rules),
)
