use Rattle.std.proofs.Common.{◌≡◌, true, take}
use Rattle.std.specs.List.{list_all}
use Rattle.ll_learn.specs.Columns.{is_at}
use Rattle.ll_learn.specs.Draft.{is_gainless, without}
use Rattle.ll_learn.proofs.solution.first_gain.Given as goal

-- so far
abbrev pub invariant-loop-moved : goal.invariant-loop-moved
invariant-loop-moved l =
    list_all (is_gainless (without l.out (is_at l.held)) l.right) (take l.moved-index l.moves) ≡ true
