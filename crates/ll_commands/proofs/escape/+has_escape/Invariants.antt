use Rattle.std.proofs.Common.{length}
use Rattle.ll_commands.proofs.escape.+has_escape.Given as goal

abbrev pub decreases-has_escape : goal.decreases-has_escape
decreases-has_escape l = length l.path.now
