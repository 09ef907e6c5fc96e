use Rattle.std.proofs.Common.{◌≢◌, ◌-◌, ◌<◌, ◌≤◌, ℕ, length, get_or}
use Rattle.ll_path.proofs.names.first_slash.Given as goal

abbrev pub decreases-loop-end : goal.decreases-loop-end
decreases-loop-end l = length l.bytes - l.end

abbrev pub invariant-loop-end : goal.invariant-loop-end
invariant-loop-end l = record {
  within : l.end ≤ length l.bytes;
  passed : (i : ℕ) → i < l.end → get_or l.bytes i 0 ≢ 47;
}
