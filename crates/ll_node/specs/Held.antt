-- What a slot's content means. No public contract cites it. own
use Rattle.std.specs.Prelude.{ℕ, Bool, true, false, List, []}
use Rattle.ll_rights.specs.Map.{empty}
use Rattle.ll_node.specs.declared.slot.Held.{Held}
use Rattle.ll_node.specs.declared.slot.Held.TheVariants.{Names, Bytes}
use Rattle.ll_node.specs.Slot.{NameMap}

abbrev pub names_of : Held → NameMap
names_of (Names names) = names
names_of (Bytes bytes) = empty

abbrev pub bytes_of : Held → List ℕ
bytes_of (Names names) = []
bytes_of (Bytes bytes) = bytes

abbrev pub has_names : Held → Bool
has_names (Names names) = true
has_names (Bytes bytes) = false
