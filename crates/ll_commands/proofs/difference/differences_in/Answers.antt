use Rattle.std.proofs.Common.{List, subst, string_bytes}
use Rattle.std.proofs.lemmas.Result.{IfOk-weaker}
use Rattle.ll_seq.specs.declared.call.Call.{Call}
use Rattle.ll_why.specs.Difference.{AreDifferences, Seen, paths_compared, seen_by}
use Rattle.ll_commands.specs.Difference.{seen_in}
use Rattle.ll_commands.specs.Rights.{loader_calls}
use Rattle.ll_commands.proofs.difference.differences_in.Goals as goal

pub returns : goal.returns
returns c =
    let before = c.args.before.now in
    let after = c.args.after.now in
    let paths = c.args.paths.now in
    IfOk-weaker c.differences.result _ _ (λ told are.
    subst (λ (s : Seen). AreDifferences s (seen_in after.opened.tree after.opened.client) c.args.style
    (paths_compared paths (loader_calls after.setup) (loader_calls before.setup)) told.found (string_bytes told.text))
    c.view_of.ensures
    (subst (λ (s : Seen). AreDifferences (seen_by c.view_of.result) s c.args.style
    (paths_compared paths (loader_calls after.setup) (loader_calls before.setup)) told.found (string_bytes told.text))
    c.view_of-2.ensures
    (subst (λ (calls : List Call). AreDifferences (seen_by c.view_of.result) (seen_by c.view_of-2.result) c.args.style
    (paths_compared paths calls (loader_calls before.setup)) told.found (string_bytes told.text))
    c.loader_calls-new.ensures
    (subst (λ (calls : List Call). AreDifferences (seen_by c.view_of.result) (seen_by c.view_of-2.result) c.args.style
    (paths_compared paths c.loader_calls-new.result.now calls) told.found (string_bytes told.text))
    c.loader_calls-old.ensures are))))
    c.differences.ensures
