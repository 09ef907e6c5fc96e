use Rattle.std.proofs.Common.{◌≡◌, ◌≤◌, length, map, take, vec_capacity}
use Rattle.ll_check.proofs.test_run.calls_of.Given as goal

-- the calls so far, with room for the others
abbrev pub invariant-loop-test : goal.invariant-loop-test
invariant-loop-test l = record {
  same : l.calls.items ≡ map (λ test. test.call) (take l.test-index l.fn.tests);
  room : length l.fn.tests ≤ vec_capacity l.calls;
}
