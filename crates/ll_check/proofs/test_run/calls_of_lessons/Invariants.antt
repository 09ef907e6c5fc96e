use Rattle.std.proofs.Common.{◌≡◌, ◌≤◌, length, map, take, vec_capacity}
use Rattle.ll_check.proofs.test_run.calls_of_lessons.Given as goal

-- the calls so far, with room for the others
abbrev pub invariant-loop-lesson : goal.invariant-loop-lesson
invariant-loop-lesson l = record {
  same : l.calls.items ≡ map (λ test. test.call) (map (λ t. t.now) (take l.lesson-index l.lessons));
  room : length l.fn.lessons ≤ vec_capacity l.calls;
}
