use Rattle.std.proofs.Common.{◌≡◌, ◌∙◌, ◌++◌, ◌∷◌, [], Some, arith, ap, inl, inr}
use Rattle.std.proofs.Common.{subst, sym}
use Rattle.std.specs.Prelude.{slice_get}
use Rattle.std.proofs.lemmas.Bool.{cases_lt}
use Rattle.std.proofs.lemmas.Option.{slice_get_within}
use Rattle.ll_seq.specs.State.{Name}
use Rattle.ll_seq.specs.Tree.{named}
use Rattle.ll_learn.specs.Sites.{IsSpelt, HasSite}
use Rattle.ll_learn.proofs.AllSites.{more_yet, there_on}
use Rattle.ll_learn.proofs.Given.{read_among}
use Rattle.ll_learn.proofs.site.Sites.add_names.Goals as goal

pub loop-name-preserved : goal.loop-name-preserved
loop-name-preserved c =
    let s = c.args.tree.now in
    let above = c.args.above.now in
    let names = c.args.names.now in
    let i = c.loop-name.name-index in
    let old = c.loop-name.self in
    let new = c.add_name.new.self in
    let more = c.in_ok-add_name.ensures.more in
    record {
      sites = c.in_ok-add_name.ensures.sites;
      more = more_yet c.args.self.now old new c.loop-name.invariant.more more;
      there = λ k name inode lt at spelt is. elim (cases_lt k i) [
        | inl below ↦ there_on old new more inode (c.loop-name.invariant.there k name inode below at spelt is)
        | inr past ↦
            let item = c.name-item.result in
            let here : k ≡ i = omega arith in
            let found : slice_get names i ≡ Some item = read_among names i item c.loop-name-test.true c.name-item.is in
            let both : Some item ≡ Some name = sym found ∙ ap (slice_get names) (sym here) ∙ at in
            let same : item ≡ name = cc in
            subst (λ (n : Name). IsSpelt (above ++ n ∷ []) → named s (above ++ n ∷ []) ≡ Some inode → HasSite new inode)
            same (c.in_ok-add_name.ensures.there inode) spelt is
      ];
    }

pub returns-clause-there : goal.returns-clause-there
returns-clause-there c index name inode at =
    let names = c.args.names.now in
    let within = slice_get_within names index name at in
    let end = c.loop-name-test.false in
    c.loop-name.invariant.there index name inode (omega arith) at
