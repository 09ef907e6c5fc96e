-- Slots that are lent to a step, and how a change alters each. Cited by contracts between crates alone. own
use Rattle.std.specs.Prelude.{◌≢◌, ℕ, ◌==◌, List, [], ◌∷◌, Some, None, option_and_then, if◌then◌else◌, ⊤}
use Rattle.ll_rights.specs.declared.kind.Kind.{Kind}
use Rattle.ll_rights.specs.declared.kind.Kind.TheVariants.{Reg}
use Rattle.ll_rights.specs.Map.{insert, remove}
use Rattle.ll_node.specs.Slot.{new_slot}
use Rattle.ll_seq.specs.Effects.{resized}
use Rattle.ll_seq.specs.State.{Name}
use Rattle.ll_node.specs.declared.held.Held.{Held}

-- a vacant slot: all are equal
abbrev pub vacant : Held
vacant = record { inode = 0; node = new_slot Reg }

-- the slot without the client's mark
abbrev pub unmarked : ℕ → Held → Held
unmarked number held = record held {
  node = record held.node {
    mark = option_and_then (λ holder. if holder == number then None else Some holder) held.node.mark;
  };
}

-- the slot after the directory got the name, for this inode
abbrev pub named_in : ℕ → Name → ℕ → Held → Held
named_in directory name inode held =
    if held.inode == directory
    then record held { node = record held.node { names = insert held.node.names name inode } } else held

-- the slot after the directory lost the name
abbrev pub unnamed_in : ℕ → Name → Held → Held
unnamed_in directory name held =
    if held.inode == directory then record held { node = record held.node { names = remove held.node.names name } }
    else held

-- the slot after the node's bytes were cut, or extended with zeros, to this length
abbrev pub resized_in : ℕ → ℕ → Held → Held
resized_in inode size held =
    if held.inode == inode then record held { node = record held.node { bytes = resized held.node.bytes size } }
    else held

abbrev pub emptied_in : ℕ → Held → Held
emptied_in inode held = if held.inode == inode then record held { node = record held.node { bytes = [] } } else held

-- the slot after the inode left it
abbrev pub vacated : ℕ → Held → Held
vacated inode held = if held.inode == inode then vacant else held

-- a slot with a new node
abbrev pub filled : ℕ → Kind → Held
filled inode kind = record { inode = inode; node = new_slot kind }

-- the inode is in none of these slots
abbrev pub Misses : ℕ → List Held → Type 0
Misses inode [] = ⊤
Misses inode (held ∷ lent) = (held.inode ≢ inode) × Misses inode lent

-- no inode is in two of the slots
abbrev pub AreApart : List Held → Type 0
AreApart [] = ⊤
AreApart (held ∷ lent) = (held.inode ≢ 0 → Misses held.inode lent) × AreApart lent
