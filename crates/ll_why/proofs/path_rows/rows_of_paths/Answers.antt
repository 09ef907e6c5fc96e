use Rattle.std.proofs.Common.{◌≡◌, ◌+◌, ◌++◌, ◌∷◌, [], take, ap, sym, subst, ◌∙◌, string_bytes}
use Rattle.std.proofs.lemmas.List.{take_all, take_more}
use Rattle.ll_why.specs.PathRows.{AreRows}
use Rattle.ll_why.proofs.TableRows.{rows_join}
use Rattle.ll_why.proofs.path_rows.rows_of_paths.Goals as goal

pub loop-path-preserved : goal.loop-path-preserved
loop-path-preserved c =
    let s = c.args.tree.now in
    let domain = c.args.domain.now in
    let paths = c.args.paths.now in
    let i = c.loop-path.path-index in
    let path = c.path-item.result in
    let last : take (i + 1) paths ≡ take i paths ++ path ∷ [] =
    take_more paths i path c.loop-path-test.true ∙ ap (λ p. take i paths ++ p ∷ []) (sym c.path-item.is) in
    let adds = c.in_ok-push_row.ensures in
    record {
      so_far = subst (λ ps. AreRows s domain c.args.style ps (string_bytes c.push_row.new.text)) (sym last)
          (subst (λ t. AreRows s domain c.args.style (take i paths ++ path ∷ []) t) (sym adds.2)
          (rows_join s domain c.args.style (take i paths) (path ∷ []) (string_bytes c.loop-path.text) adds.0
          c.loop-path.invariant.so_far adds.1));
    }

pub returns : goal.returns
returns c = subst (λ ps. AreRows c.args.tree.now c.args.domain.now c.args.style ps (string_bytes c.loop-path.text))
    (take_all c.loop-path.path-index c.args.paths.now c.loop-path-test.false) c.loop-path.invariant.so_far
