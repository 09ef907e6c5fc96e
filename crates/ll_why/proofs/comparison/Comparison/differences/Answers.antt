use Rattle.std.proofs.Common.{List, subst, sym, string_bytes}
use Rattle.std.proofs.lemmas.Bool.{eqb-false, eqb-true}
use Rattle.std.proofs.lemmas.Result.{IfOk-weaker}
use Rattle.ll_path.specs.Path.{Path}
use Rattle.ll_why.specs.Difference.{AreCompared, paths_compared}
use Rattle.ll_why.proofs.TextGrowth.{empty_is}
use Rattle.ll_why.proofs.PathDifferences.{some_compared}
use Rattle.ll_why.proofs.comparison.Comparison.differences.Goals as goal

pub returns-then-is_empty : goal.returns-then-is_empty
returns-then-is_empty c =
    let none = empty_is c.args.paths.now (eqb-true _ _ (sym c.if-is_empty.ensures)) in
    IfOk-weaker c.at_all_nodes.result _ _ (λ told is. subst (λ (ps : List Path). AreCompared c.args.self.now
    (paths_compared ps c.args.new.now c.args.old.now) told.found (string_bytes told.text)) (sym none) is)
    c.at_all_nodes.ensures

pub returns-else-is_empty : goal.returns-else-is_empty
returns-else-is_empty c =
    let some = some_compared c.args.paths.now c.args.new.now c.args.old.now
    (eqb-false _ _ (sym c.if-is_empty.ensures)) in
    IfOk-weaker c.at_paths.result _ _ (λ told is. subst (λ (ps : List Path). AreCompared c.args.self.now ps
    told.found (string_bytes told.text)) (sym some) is)
    c.at_paths.ensures
