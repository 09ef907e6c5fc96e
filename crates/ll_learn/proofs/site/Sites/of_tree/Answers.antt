use Rattle.std.proofs.Common.{◌≡◌, ◌∙◌, Some, arith, refl, sym, subst}
use Rattle.std.specs.Prelude.{slice_get}
use Rattle.ll_seq.specs.State.{State}
use Rattle.ll_learn.specs.declared.site.Site.{Site}
use Rattle.ll_learn.specs.Sites.{AreSites, HasBelow, IsReached}
use Rattle.ll_learn.proofs.AllSites.{all_there, below_next, reached_tree}
use Rattle.ll_learn.proofs.site.Sites.of_tree.Goals as goal

pub returns-then-index-len-clause-all : goal.returns-then-index-len-clause-all
returns-then-index-len-clause-all c reached =
    let s = c.args.tree.now in
    let sites = c.loop-index.sites in
    all_there s (reached_tree s reached) c.args.all.0 sites c.loop-index.invariant.sites c.loop-index.index
    (omega (arith, c.if-index-len.true, c.len.ensures)) (c.loop-index.invariant.below reached)

pub loop-index-init : goal.loop-index-init
loop-index-init c = record {
  same = refl;
  sites = c.in_ok-sites.ensures c.args.tree.now;
  below = λ reached i lt. absurd (omega arith);
}

pub add_below-requires-clause-sites : goal.add_below-requires-clause-sites
add_below-requires-clause-sites c =
    subst (λ (t : State). AreSites t c.args.all.0 c.loop-index.sites) (sym c.loop-index.invariant.same)
    c.loop-index.invariant.sites

pub loop-index-preserved : goal.loop-index-preserved
loop-index-preserved c = record {
  same = c.in_ok-add_below.ensures.same ∙ c.loop-index.invariant.same;
  sites = subst (λ (t : State). AreSites t c.args.all.0 c.add_below.new.self) c.loop-index.invariant.same
      c.in_ok-add_below.ensures.sites;
  below = λ reached. below_next c.args.tree.now c.loop-index.sites c.add_below.new.self c.loop-index.index
      c.in_ok-add_below.ensures.more (omega (arith, c.if-index-len.false, c.len.ensures))
      (c.loop-index.invariant.below reached)
      (subst (λ (t : State). IsReached t → (site : Site)
      → slice_get c.loop-index.sites.rows.items c.loop-index.index ≡ Some site → HasBelow t c.add_below.new.self site)
      c.loop-index.invariant.same c.in_ok-add_below.ensures.below reached);
}

pub returns-clause-all : goal.returns-clause-all
returns-clause-all c reached =
    let s = c.args.tree.now in
    let sites = c.loop-index.sites in
    all_there s (reached_tree s reached) c.args.all.0 sites c.loop-index.invariant.sites c.loop-index.index
    (omega (arith, sites.rows.ok.0, c.loop-index-test.false)) (c.loop-index.invariant.below reached)
