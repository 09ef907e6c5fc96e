use Rattle.std.proofs.Common.{◌≡◌, refl}
use Rattle.ll_check.specs.Checks.{reading_of}
use Rattle.ll_check.proofs.Tests.{says_nothing, says_vain}
use Rattle.ll_check.proofs.Tests.{test_taken}
use Rattle.ll_check.proofs.check_text.ReadLines.take.Goals as goal

pub returns-clause-ok : goal.returns-clause-ok
returns-clause-ok c =
    test_taken c.args.line.now c.body_of-body.result.now c.args.number (reading_of c.args.self.now)
    (reading_of c.add_test.new.self) c.in-Ok-Some.test c.body_of-body.ensures
    (rw c.in-Ok-Some.field-0-is at c.in-Ok-Some.ensures.some) (c.if-not-can_come.ensures.0 refl)
    c.in_ok-add_test.ensures.ok

pub returns-in-Ok-None-clause-bad : goal.returns-in-Ok-None-clause-bad
returns-in-Ok-None-clause-bad c = λ k e.
    let same : k ≡ c.args.number = cc in (
      same,
      says_nothing c.args.line.now c.body_of-body.result.now (reading_of c.args.self.now) c.body_of-body.ensures
          c.if-is_silent.ensures (rw c.in-Ok-None.field-0-is at c.in-Ok-None.ensures.none)
          c.in_default.ensures.none c.in_default-policy_of.ensures.none,
    )

pub returns-then-not-can_come-clause-bad : goal.returns-then-not-can_come-clause-bad
returns-then-not-can_come-clause-bad c = λ k e.
    let same : k ≡ c.args.number = cc in (
      same,
      says_vain c.args.line.now c.body_of-body.result.now (reading_of c.args.self.now) c.in-Ok-Some.test
          c.body_of-body.ensures c.if-is_silent.ensures
          (rw c.in-Ok-Some.field-0-is at c.in-Ok-Some.ensures.some).0
          (λ can. absurd (cc (c.if-not-can_come.ensures.1 can))),
    )
