use Rattle.std.proofs.Common.{codes}
use Rattle.ll_check.proofs.Joins.{behind}
use Rattle.ll_check.proofs.styles.push_suite.Goals as goal

pub returns : goal.returns
returns c = behind (codes "<?xml version=\"1.0\" encoding=\"UTF-8\"?>\n<testsuites>\n") _ _ _ _
    c.in_ok-push_bytes.ensures (behind (codes "<testsuite name=\"check\" tests=\"") _ _ _ _
    c.in_ok-push_bytes-2.ensures (behind _ _ _ _ _ c.in_ok-push_number.ensures (behind (codes "\" failures=\"") _ _
    _ _ c.in_ok-push_bytes-3.ensures c.in_ok-push_ended.ensures)))
