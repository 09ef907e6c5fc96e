-- With which limits a tree may be created. own
use Rattle.std.specs.Prelude.{ℕ, ◌≤◌}
use Rattle.ll_rights.specs.declared.limits.TheConstants.{HISTORY_ENTRIES, TREE_NODES}

abbrev pub MayOpen : (nodes history : ℕ) → Type 0
MayOpen nodes history = (1 ≤ nodes) × (nodes ≤ TREE_NODES) × (1 ≤ history) × (history ≤ HISTORY_ENTRIES)
