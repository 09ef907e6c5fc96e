use Rattle.std.proofs.Common.{◌<◌, inl, refl, arith}
use Rattle.ll_rights.specs.Errno.{errno_number}
use Rattle.ll_wire.proofs.EntryTokens.{not_kept}
use Rattle.ll_wire.proofs.entry.entry_reply_of.Goals as goal

pub returns-in-Ok-Refused : goal.returns-in-Ok-Refused
returns-in-Ok-Refused c =
    let more : 20 < errno_number c.in-Ok-Refused.errno = omega (arith, c.number.ensures, c.if-number-gt20.true) in
    inl (
      refl,
      not_kept c.args.body.now c.in-Ok-Refused.errno (rw c.in-Ok-Refused.field-0-is at c.in-Ok-Refused.ensures)
          more,
    )
