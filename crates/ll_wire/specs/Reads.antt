-- What reading a text returns. own
use Rattle.std.specs.Prelude.{◌≡◌, Bool, true, false, ◌⊎◌, Option, Some, None, Result, Ok, Err}
use Rattle.ll_rights.specs.declared.errno.Errno.{Errno}
use Rattle.ll_rights.specs.declared.errno.Errno.TheVariants.{NoMemory, BadLine}
use Rattle.ll_seq.specs.declared.call.Call.{Call}
use Rattle.ll_seq.specs.declared.reply.Reply.{Reply}
use Rattle.ll_seq.specs.declared.reply.Reply.TheVariants.{Bytes, Listed}
use Rattle.ll_wire.specs.Grammar.{spelling}

-- The spelled value. BadLine only if the text spells none; NoMemory only if it spells one that takes memory to read
abbrev pub ReadsBy : {V : Type 0} → (Spells Takes : V → Type 0) → Result V Errno → Type 0
ReadsBy Spells Takes (Ok v) = Spells v
ReadsBy {V} Spells Takes (Err e) =
    ((e ≡ BadLine) × ((v : V) → Spells v → ⊥)) ⊎ ((e ≡ NoMemory) × (v : V) × Spells v × Takes v)

abbrev pub Finds : {V : Type 0} → (V → Type 0) → Option V → Type 0
Finds Spells (Some v) = Spells v
Finds {V} Spells None = (v : V) → Spells v → ⊥

abbrev pub holds_text : Call → Bool
holds_text call = (spelling call).1

-- the reply has names or bytes
abbrev pub tells_text : Reply → Bool
tells_text (Bytes bytes) = true
tells_text (Listed names) = true
tells_text _ = false
