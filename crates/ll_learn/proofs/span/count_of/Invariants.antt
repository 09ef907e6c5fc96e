use Rattle.std.proofs.Common.{◌<◌, All, take}
use Rattle.ll_learn.specs.declared.site.Site.{Site}
use Rattle.ll_learn.proofs.span.count_of.Given as goal

-- above the inodes so far
abbrev pub invariant-loop-site : goal.invariant-loop-site
invariant-loop-site l = All (λ (site : Site). site.inode < l.count) (take l.site-index l.rows)
