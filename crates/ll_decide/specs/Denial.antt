-- Denials: the errno of each cause, errno(3), and the texts of places. own
use Rattle.std.specs.Prelude.{ℕ, List, codes}
use Rattle.ll_rights.specs.declared.errno.Errno.{Errno}
use Rattle.ll_rights.specs.declared.errno.Errno.TheVariants as errno
use Rattle.ll_decide.specs.declared.denial.Cause.{Cause}
use Rattle.ll_decide.specs.declared.denial.Cause.TheVariants.{EACCES, EXDEV}
use Rattle.ll_decide.specs.declared.denial.Place.{Place}
use Rattle.ll_decide.specs.declared.denial.Place.TheVariants.{At, Old, New}

abbrev pub cause_errno : Cause → Errno
cause_errno EACCES = errno.EACCES
cause_errno EXDEV = errno.EXDEV

abbrev pub place_text : Place → List ℕ
place_text At = codes "at"
place_text Old = codes "old"
place_text New = codes "new"
