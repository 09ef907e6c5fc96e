use Rattle.std.proofs.Common.{◌≡◌, ◌++◌, [], ◌∷◌, ap, ◌∙◌, string_bytes}
use Rattle.ll_path.specs.Path.{path_text}
use Rattle.ll_why.specs.Table.{behind, row_tokens}
use Rattle.ll_why.proofs.table.row_text.Goals as goal

pub returns : goal.returns
returns c =
    let tokens = behind (row_tokens c.args.path.now c.args.told.now c.args.layers) in
    let one : string_bytes c.in_ok-text.text ≡ path_text c.args.path.now =
    c.in_ok-text.ensures.ok ∙ c.as_str.ensures.text in
    c.in_ok-push_str.ensures.bytes ∙ ap (λ l. l ++ 10 ∷ []) (c.in_ok-push_told.ensures ∙ ap (λ l. l ++ tokens) one)
