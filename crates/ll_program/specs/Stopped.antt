-- What is known of a strict run that ended early. own
use Rattle.std.specs.Prelude.{ℕ, Option, Some, None}
use Rattle.ll_rights.specs.declared.errno.Errno.TheVariants.{BadLine}
use Rattle.ll_seq.specs.declared.reply.Reply.TheVariants.{Refused}
use Rattle.ll_session.specs.declared.stop.Stop.{Stop}
use Rattle.ll_session.specs.declared.stop.Stop.TheVariants.{AtLine}

-- the line that ended it, if that spells no command
abbrev pub bad_line : Stop → Option ℕ
bad_line (AtLine line (Refused BadLine)) = Some line
bad_line stop = None
