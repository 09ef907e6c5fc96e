use Rattle.std.proofs.Common.{codes}
use Rattle.ll_check.proofs.Joins.{behind}
use Rattle.ll_check.proofs.styles.TestTexts.push_tap_reason.Goals as goal

pub returns : goal.returns
returns c = rw c.if-self.false (behind (codes "  ---\n  expected: \"") _ _ _ _ c.in_ok-push_bytes.ensures (behind _
    _ _ _ _ c.in_ok-push.ensures (behind (codes "\"\n  got: \"") _ _ _ _ c.in_ok-push_bytes-2.ensures
    c.in_ok-push_tap_got.ensures)))
