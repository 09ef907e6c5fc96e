-- The refusals: the number that orders each, and its name. errno(3) for names in capitals; the rest is own
use Rattle.std.specs.Prelude.{ℕ, Bool, List, [], ◌∷◌, codes, if◌then◌else◌}
use Rattle.ll_rights.specs.declared.errno.Errno.{Errno}
use Rattle.ll_rights.specs.declared.errno.Errno.TheVariants.{EACCES, EXDEV, ENOENT, EEXIST, ENOTDIR, EISDIR, ENOTEMPTY}
use Rattle.ll_rights.specs.declared.errno.Errno.TheVariants.{EINVAL, EPERM, EBUSY, EBADF, EMFILE, ENOSPC, EMLINK}
use Rattle.ll_rights.specs.declared.errno.Errno.TheVariants.{ENAMETOOLONG, EFBIG, ELOOP, ENXIO, E2BIG, ENOMSG}
use Rattle.ll_rights.specs.declared.errno.Errno.TheVariants.{HistoryFull, NoMemory, BadLine, Stale}

abbrev pub errno_row : Errno → ℕ × List ℕ
errno_row EACCES = (1, codes "EACCES")
errno_row EXDEV = (2, codes "EXDEV")
errno_row ENOENT = (3, codes "ENOENT")
errno_row EEXIST = (4, codes "EEXIST")
errno_row ENOTDIR = (5, codes "ENOTDIR")
errno_row EISDIR = (6, codes "EISDIR")
errno_row ENOTEMPTY = (7, codes "ENOTEMPTY")
errno_row EINVAL = (8, codes "EINVAL")
errno_row EPERM = (9, codes "EPERM")
errno_row EBUSY = (10, codes "EBUSY")
errno_row EBADF = (11, codes "EBADF")
errno_row EMFILE = (12, codes "EMFILE")
errno_row ENOSPC = (13, codes "ENOSPC")
errno_row EMLINK = (14, codes "EMLINK")
errno_row ENAMETOOLONG = (15, codes "ENAMETOOLONG")
errno_row EFBIG = (16, codes "EFBIG")
errno_row ELOOP = (17, codes "ELOOP")
errno_row ENXIO = (18, codes "ENXIO")
errno_row E2BIG = (19, codes "E2BIG")
errno_row ENOMSG = (20, codes "ENOMSG")
errno_row HistoryFull = (21, codes "HistoryFull")
errno_row NoMemory = (22, codes "NoMemory")
errno_row BadLine = (23, codes "BadLine")
errno_row Stale = (24, codes "Stale")

abbrev pub errno_number : Errno → ℕ
errno_number errno = (errno_row errno).0

abbrev pub errno_text : Errno → List ℕ
errno_text errno = (errno_row errno).1

abbrev pub refuse : Bool → Errno → List Errno
refuse b errno = if b then errno ∷ [] else []
