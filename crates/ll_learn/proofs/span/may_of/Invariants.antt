use Rattle.std.proofs.Common.{◌≡◌, ◌<◌, ◌==◌, ◌&&◌, ℕ, length, take}
use Rattle.std.specs.List.{list_any}
use Rattle.ll_rights.specs.Access.{holds}
use Rattle.ll_learn.specs.declared.site.Site.{Site}
use Rattle.ll_learn.specs.Draft.{right_at}
use Rattle.ll_learn.proofs.span.may_of.Given as goal

-- of the nodes so far, the rules may hold what is held and may be granted there
abbrev pub invariant-loop-site : goal.invariant-loop-site
invariant-loop-site l = record {
  len : length l.may.items ≡ l.count;
  rights : (inode right : ℕ) → right < 15 → right_at l.may.items right inode ≡ (holds l.held.0 right
      && list_any (λ (site : Site). (site.inode == inode) && holds site.may.0 right)
      (take l.site-index l.sites.rows.items));
}
