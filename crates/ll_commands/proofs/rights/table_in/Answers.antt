use Rattle.std.proofs.Common.{List, ℕ, map, ap, subst, ◌∙◌, string_bytes, ◌≡◌, Err, rules}
use Rattle.std.specs.Borrow.{Bor}
use Rattle.std.proofs.lemmas.Result.{IfErr-weaker, IfOk-weaker}
use Rattle.ll_path.specs.Path.{Path, path_of_text}
use Rattle.ll_program.specs.Options.{TreeOrder, rights_in}
use Rattle.ll_program.specs.Paths.{HasBadWord}
use Rattle.ll_program.specs.Policy.{IsSetup, Lacks}
use Rattle.ll_seq.specs.Step.{client_of}
use Rattle.ll_commands.specs.Rights.{loader_calls, table_tree}
use Rattle.ll_why.specs.PathRows.{AreRows, paths_or_nodes}
use Rattle.ll_commands.proofs.Rows.{by_opening, by_setup, by_words, left}
use Rattle.ll_commands.proofs.rights.table_in.Goals as goal

pub returns-in_err-paths-clause-failure : goal.returns-in_err-paths-clause-failure
returns-in_err-paths-clause-failure g c =
    let same : c.from_residual.result ≡ Err c.in_err-paths.field-0.0 = search rules in
    rw same (let order = rights_in c.args.options.now in
    let t = left (g.R.Read.remaining c.args.file.now) in (
      t.0,
      t.1,
      by_words order.paths (table_tree order c.args.profile.now) t.0 c.in_err-paths.field-0.0
          c.in_err-paths.ensures.failure
          (λ e. subst (λ (l : List (Bor (List ℕ))). HasBadWord (map (λ w. w.now) l)) c.as_slice.ensures.value
          (c.in_err-paths.ensures.bad e)),
    ))

pub returns-in_err-setup-clause-failure : goal.returns-in_err-setup-clause-failure
returns-in_err-setup-clause-failure g c =
    let same : c.from_residual-in_err-setup.result ≡ Err c.in_err-setup.field-0.0 = search rules in
    rw same (let order = rights_in c.args.options.now in
    let l = c.in_err-setup.ensures.failure in (
      l.0,
      l.1,
      by_setup order.paths (table_tree order c.args.profile.now) l.0 c.in_err-setup.field-0.0
          (subst (λ (o : TreeOrder). Lacks o l.0 c.in_err-setup.field-0.0) c.of_profile.ensures l.2),
    ))

pub returns-clause-failure : goal.returns-clause-failure
returns-clause-failure g c =
    let order = rights_in c.args.options.now in
    let s = c.in_ok-setup.ensures.setup in
    IfErr-weaker c.table_of.result _ _ (λ failure fails. (
      s.0,
      s.1,
      by_opening order.paths (table_tree order c.args.profile.now) s.0 c.in_ok-setup.setup failure
          (subst (λ (o : TreeOrder). IsSetup o s.0 c.in_ok-setup.setup) c.of_profile.ensures s.2) fails,
    )) c.table_of.ensures.failure

pub returns-clause-table : goal.returns-clause-table
returns-clause-table g c =
    let s = c.in_ok-setup.ensures.setup in
    let told = c.as_slice-2.ensures.value ∙ c.in_ok-paths.ensures.paths
    ∙ ap (λ (l : List (Bor (List ℕ))). map path_of_text (map (λ w. w.now) l)) c.as_slice.ensures.value in
    IfOk-weaker c.table_of.result _ _ (λ table is. (
      s.0,
      s.1,
      (
        c.in_ok-setup.setup,
        is.0,
        is.1,
        subst (λ (o : TreeOrder). IsSetup o s.0 c.in_ok-setup.setup) c.of_profile.ensures s.2,
        is.2,
        subst (λ (ps : List Path). AreRows is.1 (client_of is.1 is.0).domain c.args.style
            (paths_or_nodes ps (loader_calls c.in_ok-setup.setup)) (string_bytes table)) told is.3,
      ),
    )) c.table_of.ensures.table
