use Rattle.std.proofs.Common.{codes}
use Rattle.ll_check.proofs.Joins.{behind}
use Rattle.ll_check.proofs.styles.push_sums.Goals as goal

pub returns : goal.returns
returns c = behind (codes "{\"passed\": ") _ _ _ _ c.in_ok-push_bytes.ensures (behind _ _ _ _ _
    c.in_ok-push_number.ensures (behind (codes ", \"failed\": ") _ _ _ _ c.in_ok-push_bytes-2.ensures
    c.in_ok-push_ended.ensures))
