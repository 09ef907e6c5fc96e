use Rattle.std.proofs.Common.{◌≡◌, ◌≤◌, length, vec_capacity}
use Rattle.ll_trials.proofs.storm.lists.Given as goal

-- the lists so far
abbrev pub invariant-loop : goal.invariant-loop
invariant-loop g l = record {
  place : l.fn.threads ≤ vec_capacity l.lists;
  count : length l.lists.items ≡ l.counter;
}
