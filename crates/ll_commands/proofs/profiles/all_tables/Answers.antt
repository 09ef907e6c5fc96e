use Rattle.std.proofs.Common.{List, ℕ, ap, inl, inr, map, subst, ◌≡◌, ◌∙◌, Err, rules}
use Rattle.std.specs.Borrow.{Bor}
use Rattle.std.proofs.lemmas.Result.{IfErr-weaker, IfOk-weaker}
use Rattle.ll_path.specs.Path.{path_of_text}
use Rattle.ll_program.specs.Paths.{HasBadWord}
use Rattle.ll_program.specs.Rights.{rights_in}
use Rattle.ll_program.proofs.Known.{same_text, unread}
use Rattle.ll_commands.proofs.Rows.{left}
use Rattle.ll_commands.proofs.Tables.{by_words}
use Rattle.ll_commands.proofs.profiles.all_tables.Goals as goal

pub returns-in_err-paths-clause-failure : goal.returns-in_err-paths-clause-failure
returns-in_err-paths-clause-failure g c =
    let same : c.from_residual.result ≡ Err c.in_err-paths.field-0.0 = search rules in
    rw same (let t = left (g.R.Read.remaining c.args.file.now) in (
      t.0,
      t.1,
      by_words (rights_in c.args.options.now) t.0 c.in_err-paths.field-0.0 c.in_err-paths.ensures.failure
          (λ e. subst (λ (l : List (Bor (List ℕ))). HasBadWord (map (λ w. w.now) l)) c.as_slice.ensures.value
          (c.in_err-paths.ensures.bad e)),
    ))

pub tables_in-requires : goal.tables_in-requires
tables_in-requires g c =
    c.as_slice-3.ensures.value ∙ c.in_ok-paths.ensures.paths
    ∙ ap (λ (l : List (Bor (List ℕ))). map path_of_text (map (λ w. w.now) l)) c.as_slice.ensures.value

pub returns-in_err-text-clause-failure : goal.returns-in_err-text-clause-failure
returns-in_err-text-clause-failure g c =
    let same : c.from_residual-in_err-text.result ≡ Err c.in_err-text.field-0.0 = search rules in
    rw same (let t = left (g.R.Read.remaining c.args.file.now) in
    (t.0, t.1, inr (inl (λ tree. unread tree t.0 c.in_err-text.field-0.0 c.in_err-text.ensures.failure))))

pub returns-clause-tables : goal.returns-clause-tables
returns-clause-tables g c =
    let same = same_text (g.R.Read.remaining c.args.file.now) c.as_slice-2.result.now c.in_ok-text.text.items
    c.as_slice-2.ensures.value c.in_ok-text.ensures.text in
    IfOk-weaker c.tables_in.result _ _ (λ tables are. (c.as_slice-2.result.now, same, are)) c.tables_in.ensures.tables

pub returns-clause-failure : goal.returns-clause-failure
returns-clause-failure g c =
    let same = same_text (g.R.Read.remaining c.args.file.now) c.as_slice-2.result.now c.in_ok-text.text.items
    c.as_slice-2.ensures.value c.in_ok-text.ensures.text in
    IfErr-weaker c.tables_in.result _ _ (λ failure lacks. (c.as_slice-2.result.now, same, lacks))
    c.tables_in.ensures.failure
