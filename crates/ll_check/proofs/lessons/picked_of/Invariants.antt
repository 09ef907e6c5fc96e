use Rattle.std.proofs.Common.{◌≡◌, map, not, take}
use Rattle.std.specs.List.{filter}
use Rattle.ll_check.specs.Wanted.{wants_denial}
use Rattle.ll_check.proofs.lessons.picked_of.Given as goal

-- those of the tests so far
abbrev pub invariant-loop-test : goal.invariant-loop-test
invariant-loop-test l =
    map (λ t. t.now) l.picked.items ≡ filter (λ test. not (wants_denial test.wanted)) (take l.test-index l.tests)
