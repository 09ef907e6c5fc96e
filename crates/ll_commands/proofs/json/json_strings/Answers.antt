use Rattle.std.proofs.Common.{◌≡◌, codes, ap, ◌∙◌, map, string_bytes, List, String}
use Rattle.std.specs.declared.alloc.Global.{Global}
use Rattle.std.proofs.lemmas.Result.{IfOk-weaker}
use Rattle.ll_why.specs.Quoted.{json_string}
use Rattle.ll_why.proofs.TextGrowth.{joined_parts}
use Rattle.ll_commands.proofs.json.json_strings.Goals as goal

pub returns : goal.returns
returns c =
    let told = map (λ t. t.now) c.args.told.now in
    let same : map string_bytes c.as_slice.result.now ≡ map json_string told =
    ap (λ (l : List (String Global)). map string_bytes l) c.as_slice.ensures.value ∙ c.in_ok-texts.ensures in
    IfOk-weaker c.joined.result _ _ (λ text e. e
    ∙ joined_parts json_string string_bytes (codes ", ") told c.as_slice.result.now same)
    c.joined.ensures
