use Rattle.std.proofs.Common.{◌++◌, [], ◌∷◌, codes, ap, ◌∙◌, string_bytes}
use Rattle.std.specs.List.{enumerate_from, flat_map}
use Rattle.ll_why.specs.Table.{behind, granted_tokens, ruled_tokens}
use Rattle.ll_why.proofs.TokenTexts.{on_ok, two}
use Rattle.ll_why.proofs.table.push_column.Goals as goal

pub returns : goal.returns
returns c =
    let old = string_bytes c.args.text.now in
    let free = granted_tokens (codes "-") c.args.grants.now.free.0 in
    let tokens = ruled_tokens c.args.path.now in
    let begun = two old (string_bytes c.push_token.new.text) (string_bytes c.push_granted.new.text) (codes "|" ∷ [])
    free c.in_ok-push_token.ensures c.in_ok-push_granted.ensures in
    on_ok c.push_rules.result _ _ c.push_rules.ensures (λ e. two old (string_bytes c.push_granted.new.text)
    (string_bytes c.push_rules.new.text) (codes "|" ∷ free)
    (flat_map tokens (enumerate_from 0 c.args.grants.now.ruled.items)) begun
    (e ∙ ap (λ l. string_bytes c.push_granted.new.text ++ behind (flat_map tokens (enumerate_from 0 l)))
    c.as_slice.ensures.value))
