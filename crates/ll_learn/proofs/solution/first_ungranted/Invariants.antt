use Rattle.std.proofs.Common.{◌≡◌, true, take}
use Rattle.std.specs.List.{list_all}
use Rattle.ll_learn.specs.Columns.{is_at}
use Rattle.ll_learn.specs.Draft.{is_granted, without}
use Rattle.ll_learn.proofs.solution.first_ungranted.Given as goal

-- so far
abbrev pub invariant-loop-asked : goal.invariant-loop-asked
invariant-loop-asked l = list_all (is_granted (without l.out (is_at l.held)) l.right) (take l.asked-index l.asks) ≡ true
