use Rattle.std.proofs.Common.{codes, ap, sym, ◌∙◌, map, string_bytes, List, String}
use Rattle.std.specs.List.{join_by}
use Rattle.std.specs.declared.alloc.Global.{Global}
use Rattle.std.proofs.lemmas.Result.{IfOk-weaker}
use Rattle.ll_why.proofs.TextGrowth.{joined_texts}
use Rattle.ll_why.proofs.rights_json.rules_json.Goals as goal

pub returns : goal.returns
returns c =
    let same = ap (λ (l : List (String Global)). map string_bytes l) c.as_slice.ensures.value ∙ c.in_ok-texts.ensures in
    IfOk-weaker c.joined.result _ _ (λ text e. e
    ∙ sym (joined_texts string_bytes (codes ", ") c.as_slice.result.now)
    ∙ ap (λ l. join_by (λ t. t) (codes ", ") l) same)
    c.joined.ensures
