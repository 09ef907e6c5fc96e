use Rattle.std.proofs.Common.{◌≡◌, drop}
use Rattle.ll_commands.specs.Confinement.{kind_among}
use Rattle.ll_commands.proofs.confinement.kind_among.Given as goal

-- the calls that are still to come decide
abbrev pub invariant-loop-call : goal.invariant-loop-call
invariant-loop-call l = kind_among l.path l.calls ≡ kind_among l.path (drop l.call-index l.calls)
