use Rattle.std.proofs.Common.{◌≡◌, ◌<◌, ◌≤◌, ◌==◌, ◌&&◌, ◌||◌, ◌∙◌, Bool, Some, ap, sym, take, length, get_or, List}
use Rattle.std.proofs.Common.{arith, subst, eq-eqb}
use Rattle.std.specs.List.{count_by, list_any}
use Rattle.std.proofs.lemmas.List.{take_all}
use Rattle.ll_seq.specs.Tree.{named}
use Rattle.ll_learn.specs.declared.site.Site.{Site}
use Rattle.ll_learn.specs.Draft.{has}
use Rattle.ll_learn.specs.Sites.{IsSpelt, is_of}
use Rattle.ll_learn.proofs.Given.{any_at, any_more, count_more, met_at, parted}
use Rattle.ll_learn.proofs.rules.rules_of.Goals as goal

pub loop-site-preserved : goal.loop-site-preserved
loop-site-preserved c =
    let rows = c.args.sites.now.rows.items in
    let i = c.loop-site.site-index in
    let site = c.site-item.result in
    let draft = c.args.draft.now in
    let value = c.deref-site-items.ensures.value in
    let lt : i < length rows = subst (λ (l : List Site). i < length l) value c.loop-site-test.true in
    let is : site ≡ get_or rows i site = subst (λ (l : List Site). site ≡ get_or l i site) value c.site-item.is in
    record {
      rules = λ inode right known.
          let p : Site → Bool = λ s. s.inode == inode in
          c.in_ok-add_rule.ensures.rules inode right known
          ∙ ap (λ b. b || ((site.inode == inode) && has draft right inode))
          (c.loop-site.invariant.rules inode right known)
          ∙ parted (list_any p (take i rows)) (site.inode == inode) (has draft right inode)
          ∙ ap (λ b. b && has draft right inode) (sym (any_more p rows i site lt is));
      named = λ s all are.
          let each = are.each i site lt in
          let spelt : IsSpelt site.path = subst (λ (x : Site). IsSpelt x.path) (sym is) each.spelt in
          let here : named s site.path ≡ Some site.inode =
          subst (λ (x : Site). named s x.path ≡ Some x.inode) (sym is) each.named in
          c.in_ok-add_rule.ensures.named s spelt here (c.loop-site.invariant.named s all are);
      once = λ inode.
          let grown = c.in_ok-add_rule.ensures.once inode in
          let so_far = c.loop-site.invariant.once inode in
          let more = count_more (is_of inode) rows i site lt is in
          omega (arith, grown, so_far, more);
    }

pub returns-clause-rules : goal.returns-clause-rules
returns-clause-rules c inode right known =
    let rows = c.args.sites.now.rows.items in
    let i = c.loop-site.site-index in
    let p : Site → Bool = λ s. s.inode == inode in
    let draft = c.args.draft.now in
    let end : length rows ≤ i =
    subst (λ (l : List Site). length l ≤ i) c.deref-site-items.ensures.value c.loop-site-test.false in
    c.loop-site.invariant.rules inode right known
    ∙ ap (λ l. list_any p l && has draft right inode) (take_all i rows end)
    ∙ met_at (list_any p rows) (has draft right inode) (λ at.
    let can = c.requires inode right known at in
    any_at p rows can.1.0 can.0 can.1.1 (eq-eqb can.0.inode inode can.2))

pub returns-clause-once : goal.returns-clause-once
returns-clause-once c s all are inode =
    let rows = c.args.sites.now.rows.items in
    let i = c.loop-site.site-index in
    let end : length rows ≤ i =
    subst (λ (l : List Site). length l ≤ i) c.deref-site-items.ensures.value c.loop-site-test.false in
    let whole = ap (count_by (is_of inode)) (take_all i rows end) in
    let so_far = c.loop-site.invariant.once inode in
    let most = are.once inode in
    omega (arith, whole, so_far, most)
