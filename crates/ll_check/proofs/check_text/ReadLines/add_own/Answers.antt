use Rattle.std.proofs.Common.{refl}
use Rattle.ll_check.specs.Checks.{own_of}
use Rattle.ll_check.proofs.check_text.ReadLines.add_own.Goals as goal

pub returns-in-Ok-clause-ok : goal.returns-in-Ok-clause-ok
returns-in-Ok-clause-ok c =
    let e = c.in-Ok.ensures in (own_of c.in-Ok.own, e.line, e.file, e.profile, refl)
