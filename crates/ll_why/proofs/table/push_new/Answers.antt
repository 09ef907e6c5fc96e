use Rattle.std.proofs.Common.{◌++◌, [], ◌∷◌, codes, string_bytes}
use Rattle.ll_rights.specs.Access.{access_text}
use Rattle.ll_why.specs.Table.{shown_tokens}
use Rattle.ll_why.proofs.TokenTexts.{on_ok, two}
use Rattle.ll_why.proofs.table.push_new.Goals as goal

pub returns : goal.returns
returns c =
    let old = string_bytes c.args.text.now in
    let first = string_bytes c.push_token.new.text in
    let second = string_bytes c.push_rights.new.text in
    let third = string_bytes c.push_rights-2.new.text in
    let missing = codes "missing" ∷ [] in
    let file = codes "new-file" ∷ access_text c.args.file.now.rights.0 ∷ [] in
    let directory = codes "new-dir" ∷ access_text c.args.directory.now.rights.0 ∷ [] in
    let by_file = two old first second missing file c.in_ok-push_token.ensures c.in_ok-push_rights.ensures in
    let by_both = two old second third (missing ++ file) directory by_file c.in_ok-push_rights-2.ensures in
    on_ok c.push_columns_if.result _ _ c.push_columns_if.ensures (λ e. two old third
    (string_bytes c.push_columns_if.new.text) (missing ++ file ++ directory)
    (shown_tokens c.args.path.now c.args.directory.now c.args.layers) by_both e)
