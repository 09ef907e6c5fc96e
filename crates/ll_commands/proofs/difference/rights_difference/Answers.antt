use Rattle.std.proofs.Common.{List, ℕ, ap, inl, inr, map, subst, ◌∙◌, string_bytes, ◌≡◌, Err, rules}
use Rattle.std.specs.Borrow.{Bor}
use Rattle.ll_path.specs.Path.{Path, path_of_text}
use Rattle.ll_program.specs.Options.{TreeOrder}
use Rattle.ll_program.specs.Paths.{HasBadWord}
use Rattle.ll_program.specs.Rights.{rights_in}
use Rattle.ll_commands.specs.Difference.{IsOpened, old_tree, seen_in}
use Rattle.ll_commands.specs.Rights.{LacksRights, loader_calls, table_tree}
use Rattle.ll_why.specs.Difference.{AreDifferences, paths_compared}
use Rattle.ll_why.specs.declared.difference.DifferenceStyle.{DifferenceStyle}
use Rattle.ll_commands.proofs.Rows.{by_words, left}
use Rattle.ll_commands.proofs.difference.rights_difference.Goals as goal

pub returns-in_err-paths-clause-failure : goal.returns-in_err-paths-clause-failure
returns-in_err-paths-clause-failure g c =
    let same : c.from_residual.result ≡ Err c.in_err-paths.field-0.0 = search rules in
    rw same (let was = left (g.P.Read.remaining c.args.old_file.now) in
    let is = left (g.R.Read.remaining c.args.file.now) in
    let order = rights_in c.args.options.now in (
      was.0,
      is.0,
      was.1,
      is.1,
      inr (by_words order.paths (table_tree order c.args.compared.now.profile.now) is.0 c.in_err-paths.field-0.0
          c.in_err-paths.ensures.failure
          (λ e. subst (λ (l : List (Bor (List ℕ))). HasBadWord (map (λ w. w.now) l)) c.as_slice.ensures.value
          (c.in_err-paths.ensures.bad e))),
    ))

pub returns-in_err-before-clause-failure : goal.returns-in_err-before-clause-failure
returns-in_err-before-clause-failure g c =
    let same : c.from_residual-in_err-before.result ≡ Err c.in_err-before.field-0.0 = search rules in
    rw same (let was = c.in_err-before.ensures.failure in
    let is = left (g.R.Read.remaining c.args.file.now) in
    let order = rights_in c.args.options.now in (
      was.0,
      is.0,
      was.1,
      is.1,
      inl (subst (λ (t : TreeOrder). LacksRights order.paths t was.0 c.in_err-before.field-0.0)
          c.of_profile-old_tree.ensures (was.2 order.paths)),
    ))

pub returns-in_err-after-clause-failure : goal.returns-in_err-after-clause-failure
returns-in_err-after-clause-failure g c =
    let same : c.from_residual-in_err-after.result ≡ Err c.in_err-after.field-0.0 = search rules in
    rw same (let was = c.in_ok-before.ensures.opened in
    let is = c.in_err-after.ensures.failure in
    let order = rights_in c.args.options.now in (
      was.0,
      is.0,
      was.1,
      is.1,
      inr (subst (λ (t : TreeOrder). LacksRights order.paths t is.0 c.in_err-after.field-0.0)
          c.of_profile-tree.ensures (is.2 order.paths)),
    ))

pub returns-in-Ok-clause-told : goal.returns-in-Ok-clause-told
returns-in-Ok-clause-told g c =
    let before = c.in_ok-before.before in
    let after = c.in_ok-after.after in
    let was = c.in_ok-before.ensures.opened in
    let is = c.in_ok-after.ensures.opened in
    let it = c.in-Ok.told in
    let paths = c.as_slice-2.ensures.value ∙ c.in_ok-paths.ensures.paths
    ∙ ap (λ (l : List (Bor (List ℕ))). map path_of_text (map (λ w. w.now) l)) c.as_slice.ensures.value in (
      was.0,
      is.0,
      was.1,
      is.1,
      (
        before.setup,
        after.setup,
        before.opened.client,
        after.opened.client,
        before.opened.tree,
        after.opened.tree,
        subst (λ (t : TreeOrder). IsOpened t was.0 before.setup before.opened.client before.opened.tree)
            c.of_profile-old_tree.ensures was.2,
        subst (λ (t : TreeOrder). IsOpened t is.0 after.setup after.opened.client after.opened.tree)
            c.of_profile-tree.ensures is.2,
        subst (λ (style : DifferenceStyle). AreDifferences (seen_in before.opened.tree before.opened.client)
            (seen_in after.opened.tree after.opened.client) style
            (paths_compared (map path_of_text (rights_in c.args.options.now).paths) (loader_calls after.setup)
            (loader_calls before.setup)) it.found (string_bytes it.text)) c.style_by-style.ensures
            (subst (λ (ps : List Path). AreDifferences (seen_in before.opened.tree before.opened.client)
            (seen_in after.opened.tree after.opened.client) c.style_by-style.result
            (paths_compared ps (loader_calls after.setup) (loader_calls before.setup)) it.found
            (string_bytes it.text)) paths c.in-Ok.ensures),
      ),
    )
