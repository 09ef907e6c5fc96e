use Rattle.std.proofs.Common.{◌++◌, [], ◌∷◌, ap, ◌∙◌, codes, string_bytes}
use Rattle.ll_why.specs.Table.{behind, kind_word}
use Rattle.ll_why.proofs.TokenTexts.{on_ok, two}
use Rattle.ll_why.proofs.table.push_nowhere.Goals as goal

pub returns : goal.returns
returns c =
    let old = string_bytes c.args.text.now in
    let first = string_bytes c.push_token.new.text in
    let second = string_bytes c.push_token-2.new.text in
    let missing = codes "missing" ∷ [] in
    let parent = codes "parent-is" ∷ [] in
    let begun = two old first second missing parent c.in_ok-push_token.ensures c.in_ok-push_token-2.ensures in
    on_ok c.push_token-3.result _ _ c.push_token-3.ensures (λ e. two old second
    (string_bytes c.push_token-3.new.text) (missing ++ parent) (kind_word c.args.kind ∷ []) begun
    (e ∙ ap (λ k. second ++ behind (k ∷ [])) c.kind_word.ensures))
