use Rattle.std.specs.Prelude.{◌+◌, ◌*◌, length}
use Rattle.ll_client.proofs.leave.+leave.Given as goal

abbrev pub decreases-leave_by : goal.decreases-leave_by
decreases-leave_by g l = 2 * length l.others.now.items + 1

abbrev pub decreases-leave_among : goal.decreases-leave_among
decreases-leave_among g l = 2 * length l.others.now.items
