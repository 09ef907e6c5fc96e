use Rattle.std.proofs.Common.{◌≡◌, ◌<◌, ◌++◌, ◌∷◌, [], ℕ, Some}
use Rattle.std.specs.Prelude.{slice_get}
use Rattle.ll_seq.specs.State.{Name}
use Rattle.ll_seq.specs.Tree.{named}
use Rattle.ll_learn.specs.Sites.{AreSites, IsLonger, IsSpelt, HasSite}
use Rattle.ll_learn.proofs.site.Sites.add_names.Given as goal

-- the nodes of the names so far are among them
abbrev pub invariant-loop-name : goal.invariant-loop-name
invariant-loop-name l = record {
  sites : AreSites l.tree l.all.0 l.self;
  more : IsLonger l.fn.self l.self;
  there : (k : ℕ) (name : Name) (inode : ℕ) → k < l.name-index → slice_get l.names k ≡ Some name
      → IsSpelt (l.above ++ name ∷ []) → named l.tree (l.above ++ name ∷ []) ≡ Some inode → HasSite l.self inode;
}
