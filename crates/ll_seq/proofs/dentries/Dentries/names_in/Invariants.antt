use Rattle.std.proofs.Common.{◌≡◌, ℕ, take, map}
use Rattle.ll_seq.specs.declared.dentries.Dentry.{Dentry}
use Rattle.ll_seq.specs.Listed.{AreListed}
use Rattle.ll_seq.proofs.dentries.Dentries.names_in.Given as goal

-- the names so far
abbrev pub invariant-loop-row : goal.invariant-loop-row
invariant-loop-row l = record {
  told : l.listing ≡ map (λ (e : Dentry × ℕ). e.0.name) (take l.row-index l.row-items);
  listed : AreListed l.listing;
}
