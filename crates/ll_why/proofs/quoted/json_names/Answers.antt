use Rattle.std.proofs.Common.{codes, ap, ◌∙◌, map, string_bytes, List, String}
use Rattle.std.specs.declared.alloc.Global.{Global}
use Rattle.std.proofs.lemmas.Result.{IfOk-weaker}
use Rattle.ll_rights.specs.Access.{set_names}
use Rattle.ll_why.specs.Quoted.{quoted}
use Rattle.ll_why.proofs.TextGrowth.{joined_parts}
use Rattle.ll_why.proofs.quoted.json_names.Goals as goal

pub returns : goal.returns
returns c =
    let same = ap (λ (l : List (String Global)). map string_bytes l) c.as_slice.ensures.value ∙ c.in_ok-names.ensures in
    IfOk-weaker c.joined.result _ _ (λ text e. e
    ∙ joined_parts quoted string_bytes (codes ", ") (set_names c.args.set.0) c.as_slice.result.now same)
    c.joined.ensures
