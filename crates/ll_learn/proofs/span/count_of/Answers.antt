use Rattle.std.proofs.Common.{◌<◌, ◌≤◌, All, arith, subst, take}
use Rattle.std.proofs.lemmas.Grind.{common_steps}
use Rattle.std.proofs.lemmas.List.{take_all}
use Rattle.std.proofs.lemmas.List.Elements.{All-more, All-nil, All-weaker}
use Rattle.ll_learn.specs.declared.site.Site.{Site}
use Rattle.ll_learn.proofs.span.count_of.Goals as goal

pub loop-site-init : goal.loop-site-init
loop-site-init c = All-nil _

pub loop-site-preserved : goal.loop-site-preserved
loop-site-preserved c =
    let rows = c.args.rows.now in
    let i = c.loop-site.site-index in
    let site = c.site-item.result in
    let old = c.loop-site.count in
    let new = c.max-count.result in
    let above = c.in-Some.ensures.1 in
    let most : old ≤ new = first_of (omega (arith, c.max-count.ensures), grind (arith, common_steps)) in
    let more : c.in-Some.above ≤ new = first_of (omega (arith, c.max-count.ensures), grind (arith, common_steps)) in
    let here : site.inode < new = omega arith in
    All-more (λ (s : Site). s.inode < new) rows i site c.loop-site-test.true
    (All-weaker (λ (s : Site). s.inode < old) (λ (s : Site). s.inode < new) (λ s lt. omega arith) (take i rows)
    c.loop-site.invariant) (subst (λ (s : Site). s.inode < new) c.site-item.is here)

pub returns : goal.returns
returns c =
    subst (All (λ (site : Site). site.inode < c.loop-site.count))
    (take_all c.loop-site.site-index c.args.rows.now c.loop-site-test.false) c.loop-site.invariant
