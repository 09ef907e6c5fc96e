use Rattle.std.proofs.Common.{◌≡◌, ◌<◌, ◌≤◌, ℕ, ◌==◌, ◌&&◌, take}
use Rattle.std.specs.List.{count_by, list_any}
use Rattle.ll_seq.specs.State.{State}
use Rattle.ll_learn.specs.declared.site.Site.{Site}
use Rattle.ll_learn.specs.Draft.{has}
use Rattle.ll_learn.specs.Lesson.{AreNamed, gives, is_on}
use Rattle.ll_learn.specs.Sites.{AreSites, is_of}
use Rattle.ll_learn.proofs.rules.rules_of.Given as goal

-- of the nodes so far, the rules grant what the draft's do
abbrev pub invariant-loop-site : goal.invariant-loop-site
invariant-loop-site l = record {
  rules : (inode right : ℕ) → right < 15 → list_any (gives inode right) l.rules.items
      ≡ (list_any (λ (site : Site). site.inode == inode) (take l.site-index l.sites.rows.items)
      && has l.draft right inode);
  named : (s : State) (all : ℕ) → AreSites s all l.sites → AreNamed s l.rules.items;
  once : (inode : ℕ) → count_by (is_on inode) l.rules.items
      ≤ count_by (is_of inode) (take l.site-index l.sites.rows.items);
}
