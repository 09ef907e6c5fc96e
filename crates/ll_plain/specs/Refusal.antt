-- Refused and denied calls. own
use Rattle.std.specs.Prelude.{Bool, true, false}
use Rattle.ll_seq.specs.declared.reply.Reply.{Reply}
use Rattle.ll_seq.specs.declared.reply.Reply.TheVariants.{Refused, Denied}

abbrev pub is_refusal : Reply → Bool
is_refusal (Refused errno) = true
is_refusal (Denied denial) = true
is_refusal _ = false
