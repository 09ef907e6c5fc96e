use Rattle.std.proofs.Common.{◌≡◌, ◌<◌, ◌≤◌, ◌==◌, ◌&&◌, ◌||◌, ◌∙◌, ℕ, All, Bool, true, false, List}
use Rattle.std.proofs.Common.{ap, arith, eq-eqb, get_or, length, refl, subst, sym, take}
use Rattle.std.specs.Prelude.{bit_and}
use Rattle.std.specs.List.{list_any}
use Rattle.std.proofs.lemmas.Bool.{and_from, and_parts, eqb-true}
use Rattle.std.proofs.lemmas.List.{take_all}
use Rattle.ll_rights.specs.Access.{holds}
use Rattle.ll_decide.proofs.Bits.{holds-and}
use Rattle.ll_learn.specs.declared.site.Site.{Site}
use Rattle.ll_learn.specs.Draft.{right_at}
use Rattle.ll_learn.proofs.AllSites.{any_among}
use Rattle.ll_learn.proofs.Given.{any_at, any_more}
use Rattle.ll_learn.proofs.span.may_of.Goals as goal

-- a rule on the inode by this site may grant the right
abbrev can : ℕ → ℕ → Site → Bool
can inode right site = (site.inode == inode) && holds site.may.0 right

shared : (held some here may : Bool) → ((held && some) || (here && (held && may))) ≡ (held && (some || (here && may)))
shared true some here may = refl
shared false some true may = refl
shared false some false may = refl

pub put-requires : goal.put-requires
put-requires c =
    let rows = c.args.sites.now.rows.items in
    let i = c.loop-site.site-index in
    let site = c.site-item.result in
    let value = c.deref-site-items.ensures.value in
    let lt : i < length rows = subst (λ (l : List Site). i < length l) value c.loop-site-test.true in
    let is : site ≡ get_or rows i site = subst (λ (l : List Site). site ≡ get_or l i site) value c.site-item.is in
    let all : All (λ (s : Site). s.inode < c.in_ok-count.count) rows =
    subst (All (λ (s : Site). s.inode < c.in_ok-count.count)) c.deref.ensures.value c.in_ok-count.ensures in
    let below : site.inode < c.in_ok-count.count =
    subst (λ (s : Site). s.inode < c.in_ok-count.count) (sym is) (all i site lt) in
    omega (arith, c.loop-site.invariant.len)

pub loop-site-preserved : goal.loop-site-preserved
loop-site-preserved c =
    let rows = c.args.sites.now.rows.items in
    let i = c.loop-site.site-index in
    let site = c.site-item.result in
    let held = c.args.held.0 in
    let value = c.deref-site-items.ensures.value in
    let lt : i < length rows = subst (λ (l : List Site). i < length l) value c.loop-site-test.true in
    let is : site ≡ get_or rows i site = subst (λ (l : List Site). site ≡ get_or l i site) value c.site-item.is in
    record {
      len = c.put.ensures.len ∙ c.loop-site.invariant.len;
      rights = λ inode right known.
          let some = list_any (can inode right) (take i rows) in
          let here = site.inode == inode in
          c.put.ensures.rights inode right known
          ∙ ap (λ b. b || (here && holds (bit_and held site.may.0) right))
          (c.loop-site.invariant.rights inode right known)
          ∙ ap (λ b. (holds held right && some) || (here && b)) (holds-and held site.may.0 right)
          ∙ shared (holds held right) some here (holds site.may.0 right)
          ∙ ap (λ b. holds held right && b) (sym (any_more (can inode right) rows i site lt is));
    }

pub returns : goal.returns
returns c inode right known =
    let rows = c.args.sites.now.rows.items in
    let i = c.loop-site.site-index in
    let held = holds c.args.held.0 right in
    let end : length rows ≤ i =
    subst (λ (l : List Site). length l ≤ i) c.deref-site-items.ensures.value c.loop-site-test.false in
    let is : right_at c.loop-site.may.items right inode ≡ (held && list_any (can inode right) rows) =
    c.loop-site.invariant.rights inode right known
    ∙ ap (λ l. held && list_any (can inode right) l) (take_all i rows end) in (
      λ at.
          let parts = and_parts held (list_any (can inode right) rows) (sym is ∙ at) in
          let found = any_among (can inode right) rows parts.1 in
          let both = and_parts (found.0.inode == inode) (holds found.0.may.0 right) found.2 in
          (parts.0, (found.0, found.1, eqb-true found.0.inode inode both.0, both.1)),
      λ both.
          let site = both.1.0 in
          is ∙ and_from held (list_any (can inode right) rows) both.0
          (any_at (can inode right) rows both.1.1.0 site both.1.1.1
          (and_from (site.inode == inode) (holds site.may.0 right) (eq-eqb site.inode inode both.1.2) both.1.3)),
    )
