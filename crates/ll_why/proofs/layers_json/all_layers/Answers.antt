use Rattle.std.proofs.Common.{ap, ◌∙◌, map, string_bytes, List, String}
use Rattle.std.specs.declared.alloc.Global.{Global}
use Rattle.std.proofs.lemmas.Result.{IfOk-weaker}
use Rattle.ll_why.specs.Quoted.{listed}
use Rattle.ll_why.proofs.layers_json.all_layers.Goals as goal

pub returns : goal.returns
returns c =
    let same = ap (λ (l : List (String Global)). map string_bytes l) c.as_slice.ensures.value
    ∙ c.in_ok-objects.ensures in
    IfOk-weaker c.listed.result _ _ (λ text e. e ∙ ap listed same) c.listed.ensures
