use Rattle.std.proofs.Common.{◌∙◌, subst, sym}
use Rattle.std.proofs.lemmas.Result.{on_ok_weaker}
use Rattle.ll_learn.specs.Sites.{HasSite}
use Rattle.ll_learn.proofs.AllSites.{found_there, new_there, one_more, same_node}
use Rattle.ll_learn.proofs.Among.{more_sites}
use Rattle.ll_learn.proofs.site.Sites.add.Goals as goal

pub returns-then-has-clause-there : goal.returns-then-has-clause-there
returns-then-has-clause-there c inode names =
    let site = c.in-Some.site in
    let same = same_node c.args.tree.now c.args.all.0 site c.args.path inode c.in-Some.ensures.site
    c.in-Some.ensures.path names in
    subst (HasSite c.args.self.now) same (found_there c.args.self.now site.inode (sym c.has.ensures ∙ c.if-has.true))

pub returns-clause-sites : goal.returns-clause-sites
returns-clause-sites c = on_ok_weaker c.push_site.result
    (λ e. more_sites c.args.tree.now c.args.all.0 c.args.self.now _ c.in-Some.site c.requires.sites
    c.in-Some.ensures.site (sym c.has.ensures ∙ c.if-has.false) e) c.push_site.ensures

pub returns-clause-more : goal.returns-clause-more
returns-clause-more c = on_ok_weaker c.push_site.result
    (λ e. one_more c.args.self.now (record { rows = c.push_site.new.rows }) c.in-Some.site e) c.push_site.ensures

pub returns-clause-there : goal.returns-clause-there
returns-clause-there c = on_ok_weaker c.push_site.result (λ e inode names.
    new_there c.args.self.now (record { rows = c.push_site.new.rows }) c.in-Some.site inode e
    (same_node c.args.tree.now c.args.all.0 c.in-Some.site c.args.path inode c.in-Some.ensures.site
    c.in-Some.ensures.path names)) c.push_site.ensures
