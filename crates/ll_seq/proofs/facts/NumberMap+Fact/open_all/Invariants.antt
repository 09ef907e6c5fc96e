use Rattle.std.proofs.Common.{take}
use Rattle.ll_seq.proofs.FactsKept.{Steps}
use Rattle.ll_seq.proofs.OpensKept.{all_opens}
use Rattle.ll_seq.proofs.facts.NumberMap+Fact.open_all.Given as goal

-- those so far are counted
abbrev pub invariant-loop-row : goal.invariant-loop-row
invariant-loop-row l = Steps l.initial.self l.self (all_opens (take l.row-index l.row-items))
