use Rattle.std.proofs.Common.{◌∙◌, ℕ, ap, map, subst}
use Rattle.std.specs.Prelude.{Some}
use Rattle.std.specs.declared.alloc.Global.{Global}
use Rattle.std.specs.declared.vec.Vec.{Vec}
use Rattle.ll_seq.specs.State.{State}
use Rattle.ll_learn.specs.Mended.{AreSiteChains, HasEachOf}
use Rattle.ll_learn.proofs.Chains.{know_each}
use Rattle.ll_learn.proofs.learned.Aim.frame.Goals as goal

pub returns-clause-frame : goal.returns-clause-frame
returns-clause-frame c =
    let chains : AreSiteChains c.args.tree c.in_ok-chains.chains =
    subst (λ (t : State). AreSiteChains t c.in_ok-chains.chains) c.in_ok-sites.ensures.same
    c.in_ok-chains.ensures.chains in
    record {
      held = c.held-held.result.0;
      is_held = c.held-held.ensures;
      sites = c.in_ok-sites.ensures.sites;
      scope = c.in_ok-scope.ensures.scope;
      of = c.in_ok-scope.ensures.sites;
      handled = c.in_ok-scope.ensures.handled;
      all = c.in_ok-sites.ensures.all;
      may = c.in_ok-scope.ensures.all;
      chains = chains;
      known = λ reached. know_each c.args.tree reached c.held-held.result.0 c.in_ok-sites.sites
          c.in_ok-sites.ensures.sites c.in_ok-scope.scope c.in_ok-scope.ensures.sites c.in_ok-chains.chains chains
          (subst (λ (t : State). HasEachOf t c.in_ok-sites.sites.rows.items c.in_ok-chains.chains)
          c.in_ok-sites.ensures.same c.in_ok-chains.ensures.each);
      beneath = ap (λ (inodes : Vec ℕ Global). map Some inodes.items) c.in_ok-scope.ensures.beneath
          ∙ c.in_ok-beneath.ensures.inodes;
    }
