use Rattle.std.proofs.Common.{◌++◌, [], ◌∷◌, codes, false, string_bytes}
use Rattle.ll_why.specs.Table.{row_tokens}
use Rattle.ll_why.proofs.TokenTexts.{on_ok, two}
use Rattle.ll_why.proofs.difference.push_turned.Goals as goal

pub returns : goal.returns
returns c =
    let text = string_bytes c.args.text.now in
    let first = string_bytes c.push_token.new.text in
    let second = string_bytes c.push_told.new.text in
    let third = string_bytes c.push_token-2.new.text in
    let was = codes "was" ∷ [] in
    let is = codes "is" ∷ [] in
    let before = row_tokens c.args.path.now c.args.old.now false in
    let after = row_tokens c.args.path.now c.args.new.now false in
    let by_two = two text first second was before c.in_ok-push_token.ensures c.in_ok-push_told.ensures in
    let by_three = two text second third (was ++ before) is by_two c.in_ok-push_token-2.ensures in
    on_ok c.push_told-2.result _ _ c.push_told-2.ensures (λ e. two text third
    (string_bytes c.push_told-2.new.text) (was ++ before ++ is) after by_three e)
