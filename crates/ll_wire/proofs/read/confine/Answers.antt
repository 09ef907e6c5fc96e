use Rattle.std.proofs.Common.{List, ℕ, ◌∷◌, ap, codes, arith}
use Rattle.ll_wire.proofs.EntryTokens.{one_is}
use Rattle.ll_wire.proofs.read.confine.Goals as goal

pub returns : goal.returns
returns c = (
  c.in-Some.ensures.0,
  ap (λ (tokens : List (List ℕ)). codes "confine" ∷ tokens)
      (one_is c.args.args.now _ _ (omega arith) c.in-Some.ensures.1),
)
