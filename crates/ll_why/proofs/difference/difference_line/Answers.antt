use Rattle.std.proofs.Common.{◌≡◌, ◌++◌, [], ◌∷◌, ap, ◌∙◌, string_bytes}
use Rattle.ll_path.specs.Path.{path_text}
use Rattle.ll_why.specs.Difference.{difference_tokens}
use Rattle.ll_why.specs.Table.{behind}
use Rattle.ll_why.proofs.difference.difference_line.Goals as goal

pub returns : goal.returns
returns c =
    let tokens = behind (difference_tokens c.args.path.now c.args.old.now c.args.new.now) in
    let one : string_bytes c.in_ok-text.text ≡ path_text c.args.path.now =
    c.in_ok-text.ensures.ok ∙ c.as_str.ensures.text in
    c.in_ok-push_str.ensures.bytes
    ∙ ap (λ l. l ++ 10 ∷ []) (c.in_ok-push_difference.ensures ∙ ap (λ l. l ++ tokens) one)
