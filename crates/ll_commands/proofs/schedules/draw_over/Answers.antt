use Rattle.std.proofs.Common.{string_bytes, rules}
use Rattle.ll_commands.proofs.schedules.draw_over.Goals as goal

pub returns-clause-file : goal.returns-clause-file
returns-clause-file g c told = (string_bytes c.in-Ok.picture, search rules, search rules)
