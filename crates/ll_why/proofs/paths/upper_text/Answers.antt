use Rattle.std.proofs.Common.{take, ap, ◌∙◌}
use Rattle.std.proofs.lemmas.Result.{IfOk-weaker}
use Rattle.ll_path.specs.Path.{Path, path_text}
use Rattle.ll_why.proofs.paths.upper_text.Goals as goal

pub returns : goal.returns
returns c =
    IfOk-weaker c.ancestor_text.result _ _ (λ text e. e
    ∙ ap (λ (p : Path). path_text (take c.args.count p)) c.path_on.ensures) c.ancestor_text.ensures
