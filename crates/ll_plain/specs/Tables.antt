-- What the plain tree's tables hold, for its invariant: no public contract cites this file.
use Rattle.std.specs.Prelude.{◌≡◌, ℕ, Some, None}
use Rattle.std.specs.Ordering.{nat_cmp}
use Rattle.ll_rights.specs.declared.kind.Kind.TheVariants.{Dir}
use Rattle.ll_rights.specs.Map.{Map, get}
use Rattle.ll_seq.specs.Facts.{AreKept}
use Rattle.ll_seq.specs.State.{State, kind_of, name_count, root}
use Rattle.ll_seq.specs.declared.facts.Fact.{Fact}

-- the root is a directory, and every inode with a name has a node
pub record HasNodes (s : State) : Type 0 where
  pub root : kind_of s root ≡ Some Dir
  pub named : (inode : ℕ) → get s.nodes inode ≡ None → name_count s inode ≡ 0

-- and the facts are the tree's
pub record IsTied (s : State) (facts : Map nat_cmp Fact) : Type 0 where
  pub kept : AreKept s facts
  pub nodes : HasNodes s
