use Rattle.std.proofs.Common.{◌≡◌, ◌++◌, [], ◌∷◌, ap, ◌∙◌, string_bytes}
use Rattle.ll_rights.specs.Access.{access_text}
use Rattle.ll_rights.specs.Kind.{kind_text}
use Rattle.ll_why.specs.Table.{behind, shown_tokens}
use Rattle.ll_why.proofs.TokenTexts.{on_ok, two}
use Rattle.ll_why.proofs.table.push_node.Goals as goal

pub returns : goal.returns
returns c =
    let old = string_bytes c.args.text.now in
    let told = c.args.told.now in
    let next = string_bytes c.push_rights.new.text in
    let rights = access_text told.rights.0 in
    let begun : next ≡ old ++ behind (kind_text told.kind ∷ rights ∷ []) =
    c.in_ok-push_rights.ensures ∙ ap (λ k. old ++ behind (k ∷ rights ∷ [])) c.text.ensures in
    on_ok c.push_columns_if.result _ _ c.push_columns_if.ensures (λ e. two old next
    (string_bytes c.push_columns_if.new.text) (kind_text told.kind ∷ rights ∷ [])
    (shown_tokens c.args.path.now told c.args.layers) begun e)
