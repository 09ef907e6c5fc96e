use Rattle.std.proofs.Common.{◌≡◌}
use Rattle.ll_learn.specs.Sites.{AreSites, HaveBelow, IsReached}
use Rattle.ll_learn.proofs.site.Sites.of_tree.Given as goal

-- what is below the rows so far is among them
abbrev pub invariant-loop-index : goal.invariant-loop-index
invariant-loop-index l = record {
  same : l.tree ≡ l.fn.tree;
  sites : AreSites l.fn.tree l.all.0 l.sites;
  below : IsReached l.fn.tree → HaveBelow l.fn.tree l.sites l.index;
}
