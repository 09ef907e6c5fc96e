use Rattle.std.proofs.Common.{◌≡◌, ◌∙◌, ◌<◌, ◌≤◌, ℕ, List, [], ◌∷◌, ap, arith, length, refl, rules, sym}
use Rattle.std.proofs.lemmas.Bool.{eq-eqb, eqb-true}
use Rattle.std.proofs.lemmas.Grind.{common_steps}
use Rattle.std.proofs.lemmas.Slice.Eq.{bytes_eq-Decides}
use Rattle.ll_learn.specs.Mended.{chain_in}
use Rattle.ll_learn.proofs.Chains.{chain_past, chain_within}
use Rattle.ll_learn.proofs.site_chains.SiteChains.has.Goals as goal

pub returns-then-place-len : goal.returns-then-place-len
returns-then-place-len c =
    let rows = c.args.self.now.rows.items in
    let inode = c.args.inode in
    let lt : inode < length rows = first_of
    (grind (arith, common_steps, c.len.ensures, c.if-place-len.true), search rules) in
    let chain : chain_in rows inode ≡ c.as_slice.result.now =
    chain_within rows inode c.index.result.now lt c.index.ensures ∙ sym c.as_slice.ensures.value in
    let is = bytes_eq-Decides c.as_slice.result.now c.args.inodes.now in (
      λ yes. chain ∙ is.0 (sym c.eq.ensures ∙ yes),
      λ same. c.eq.ensures ∙ is.1 (sym chain ∙ same),
    )

empty_is : (xs : List ℕ) → length xs ≡ 0 → xs ≡ []
empty_is [] e = refl
empty_is (x ∷ xs) e = absurd (omega (arith, e))

pub returns-else-place-len : goal.returns-else-place-len
returns-else-place-len c =
    let rows = c.args.self.now.rows.items in
    let inode = c.args.inode in
    let inodes = c.args.inodes.now in
    let ge : length rows ≤ inode = first_of
    (grind (arith, common_steps, c.len.ensures, c.if-place-len.false), search rules) in
    let chain : chain_in rows inode ≡ [] = chain_past rows inode ge in (
      λ yes. chain ∙ sym (empty_is inodes (eqb-true (length inodes) 0 (sym c.is_empty.ensures ∙ yes))),
      λ same. c.is_empty.ensures ∙ eq-eqb (length inodes) 0 (ap length (sym same ∙ chain)),
    )
