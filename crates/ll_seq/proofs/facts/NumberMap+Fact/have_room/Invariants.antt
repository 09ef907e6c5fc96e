use Rattle.std.proofs.Common.{◌≡◌, ℕ, drop}
use Rattle.std.specs.List.{list_all}
use Rattle.ll_rights.specs.Map.{entries}
use Rattle.ll_seq.specs.declared.client.Descriptor.{Descriptor}
use Rattle.ll_seq.specs.Facts.{has_room}
use Rattle.ll_seq.proofs.facts.NumberMap+Fact.have_room.Given as goal

-- what is left to be looked at
abbrev pub invariant-loop-row : goal.invariant-loop-row
invariant-loop-row l =
    list_all (λ (d : ℕ × Descriptor). has_room l.self d.1.inode) (entries l.descriptors)
    ≡ list_all (λ (d : ℕ × Descriptor). has_room l.self d.1.inode) (drop l.row-index l.row-items)
