-- Why an operation that may be refused fails. Cited by contracts between crates alone. own
use Rattle.std.specs.Prelude.{◌≡◌, ◌⊎◌, List, [], Some, slice_get}
use Rattle.ll_rights.specs.declared.errno.Errno.{Errno}
use Rattle.ll_rights.specs.declared.errno.Errno.TheVariants.{NoMemory}

-- with the first of these refusals, or with NoMemory if there is none
abbrev pub Fails : List Errno → Errno → Type 0
Fails refusals errno = (slice_get refusals 0 ≡ Some errno) ⊎ ((errno ≡ NoMemory) × (refusals ≡ []))
