-- What reading a part of a policy returns. own
use Rattle.std.specs.Prelude.{◌≡◌, ◌⊎◌, List, [], Some, slice_get, Result, Ok, Err}
use Rattle.ll_policy.specs.declared.fault.PolicyFault.{PolicyFault}
use Rattle.ll_policy.specs.declared.fault.PolicyFault.TheVariants.{NoMemory}

-- the value if nothing is wrong, or the first fault
abbrev pub Checks : {V : Type 0} → List PolicyFault → (V → Type 0) → Result V PolicyFault → Type 0
Checks faults IsRight (Ok v) = (faults ≡ []) × IsRight v
Checks faults IsRight (Err fault) = slice_get faults 0 ≡ Some fault

-- the value if nothing is wrong, or the first fault, or NoMemory
abbrev pub Reads : {V : Type 0} → List PolicyFault → (V → Type 0) → Result V PolicyFault → Type 0
Reads faults IsRight (Ok v) = (faults ≡ []) × IsRight v
Reads faults IsRight (Err fault) = (fault ≡ NoMemory) ⊎ (slice_get faults 0 ≡ Some fault)
