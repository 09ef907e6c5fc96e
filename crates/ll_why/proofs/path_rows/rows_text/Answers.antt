use Rattle.std.proofs.Common.{List, subst, sym, string_bytes}
use Rattle.std.proofs.lemmas.Bool.{eqb-false, eqb-true}
use Rattle.std.proofs.lemmas.Result.{IfOk-weaker}
use Rattle.ll_path.specs.Path.{Path}
use Rattle.ll_why.specs.PathRows.{AreRows, paths_or_nodes}
use Rattle.ll_why.proofs.TextGrowth.{empty_is}
use Rattle.ll_why.proofs.TableRows.{some_paths}
use Rattle.ll_why.proofs.path_rows.rows_text.Goals as goal

pub returns-then-is_empty : goal.returns-then-is_empty
returns-then-is_empty c =
    let none = empty_is c.args.paths.now (eqb-true _ _ (sym c.if-is_empty.ensures)) in
    IfOk-weaker c.rows_of_nodes.result _ _ (λ text rows. subst (λ (ps : List Path). AreRows c.args.tree.now
    c.args.domain.now c.args.style (paths_or_nodes ps c.args.calls.now) (string_bytes text)) (sym none) rows)
    c.rows_of_nodes.ensures

pub returns-else-is_empty : goal.returns-else-is_empty
returns-else-is_empty c =
    let some = some_paths c.args.paths.now c.args.calls.now (eqb-false _ _ (sym c.if-is_empty.ensures)) in
    IfOk-weaker c.rows_of_paths.result _ _ (λ text rows. subst (λ (ps : List Path). AreRows c.args.tree.now
    c.args.domain.now c.args.style ps (string_bytes text)) (sym some) rows)
    c.rows_of_paths.ensures
