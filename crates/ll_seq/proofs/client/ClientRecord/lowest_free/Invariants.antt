use Rattle.std.proofs.Common.{◌≡◌, ◌-◌}
use Rattle.std.specs.Prelude.{not, find}
use Rattle.ll_rights.specs.Map.{has}
use Rattle.ll_seq.specs.Stages.{lowest_free, numbers_from}
use Rattle.ll_seq.proofs.client.ClientRecord.lowest_free.Given as goal

-- the free one is among the numbers that are left
abbrev pub invariant-loop-number : goal.invariant-loop-number
invariant-loop-number l = lowest_free l.self.descriptors
    ≡ find (λ fd. not (has l.self.descriptors fd)) (numbers_from l.number (64 - l.number))
