use Rattle.std.proofs.Common.{◌≡◌, ◌<◌, ℕ, []}
use Rattle.std.specs.Prelude.{◌≢◌, Some, slice_get}
use Rattle.ll_rights.specs.declared.kind.Kind.TheVariants.{Dir}
use Rattle.ll_seq.specs.State.{kind_of}
use Rattle.ll_seq.specs.Tree.{named}
use Rattle.ll_learn.specs.declared.site.Site.{Site}
use Rattle.ll_learn.specs.Mended.{AreSiteChains, chain_at}
use Rattle.ll_learn.proofs.site_chains.SiteChains.of_sites.Given as goal

-- so far
abbrev pub invariant-loop-site : goal.invariant-loop-site
invariant-loop-site l = record {
  chains : AreSiteChains l.tree l.chains;
  each : (index : ℕ) (site : Site) (inode : ℕ) → index < l.site-index
      → slice_get l.sites.rows.items index ≡ Some site → named l.tree site.path ≡ Some inode
      → kind_of l.tree inode ≡ Some Dir → chain_at l.chains inode ≢ [];
}
