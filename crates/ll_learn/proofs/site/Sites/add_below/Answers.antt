use Rattle.std.proofs.Common.{◌≡◌, ◌∙◌, Some, ap, false, subst, sym}
use Rattle.std.specs.Option.{option_map_or}
use Rattle.std.specs.Prelude.{slice_get}
use Rattle.std.proofs.lemmas.Result.{on_ok_weaker}
use Rattle.ll_rights.specs.Kind.{is_dir}
use Rattle.ll_seq.specs.State.{State, kind_of, names_in}
use Rattle.ll_seq.specs.Tree.{inode_of}
use Rattle.ll_learn.specs.Sites.{AreSites}
use Rattle.ll_learn.specs.declared.site.Site.{Site}
use Rattle.ll_learn.proofs.AllSites.{below_listed, none_below, site_is}
use Rattle.ll_learn.proofs.Given.{read_among}
use Rattle.ll_learn.proofs.site.Sites.add_below.Goals as goal

pub returns-then-not-is_dir-clause-below : goal.returns-then-not-is_dir-clause-below
returns-then-not-is_dir-clause-below c reached site at =
    let s = c.args.tree.now in
    let rows = c.args.self.now.rows.items in
    let here = c.index-directory.result.now in
    let found : slice_get rows c.args.index ≡ Some here =
    read_among rows c.args.index here c.requires.index c.index-directory.ensures in
    let same : here ≡ site = cc in
    none_below s reached c.args.all.0 c.args.self.now site
    (site_is s c.args.all.0 c.args.self.now c.requires.sites site (c.args.index, at))
    (λ is. cc (c.if-not-is_dir.ensures
    ∙ ap (λ o. option_map_or is_dir o false) (ap (λ (x : Site). kind_of s x.inode) same ∙ is)))

pub add_names-requires : goal.add_names-requires
add_names-requires c =
    subst (λ (t : State). AreSites t c.args.all.0 c.args.self.now) (sym c.in_ok-names.ensures.same) c.requires.sites

pub returns-clause-below : goal.returns-clause-below
returns-clause-below c = on_ok_weaker c.add_names.result (λ there reached site at.
    let s = c.args.tree.now in
    let rows = c.args.self.now.rows.items in
    let here = c.index-directory.result.now in
    let found : slice_get rows c.args.index ≡ Some here =
    read_among rows c.args.index here c.requires.index c.index-directory.ensures in
    let same : here ≡ site = cc in
    below_listed s c.names_in.new.tree c.in_ok-names.ensures.same c.args.all.0 c.add_names.new.self site
    (site_is s c.args.all.0 c.args.self.now c.requires.sites site (c.args.index, at)) c.in_ok-above.above
    c.names-2.result.now (c.in_ok-above.ensures ∙ ap (λ (x : Site). x.path) same)
    (c.names-2.ensures.names ∙ c.in_ok-names.ensures.names
    ∙ ap (λ (x : Site). names_in s (inode_of s x.path)) same) there) c.add_names.ensures.there
