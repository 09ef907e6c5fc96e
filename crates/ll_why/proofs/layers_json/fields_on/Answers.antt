use Rattle.std.proofs.Common.{ap, ◌∙◌}
use Rattle.std.proofs.lemmas.Result.{IfOk-weaker}
use Rattle.ll_path.specs.Path.{Path}
use Rattle.ll_why.specs.RightsJson.{grants_fields}
use Rattle.ll_why.proofs.layers_json.fields_on.Goals as goal

pub returns : goal.returns
returns c =
    IfOk-weaker c.grants_fields.result _ _ (λ text e. e
    ∙ ap (λ (p : Path). grants_fields p c.args.grants.now) c.path_on.ensures) c.grants_fields.ensures
