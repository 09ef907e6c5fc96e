use Rattle.std.proofs.Common.{◌≡◌, ◌++◌, ap, ◌∙◌, codes, string_bytes}
use Rattle.ll_why.specs.Signed.{beyond, signed}
use Rattle.ll_why.specs.Table.{behind}
use Rattle.ll_why.proofs.TokenTexts.{on_ok, two}
use Rattle.ll_why.proofs.signed.push_change.Goals as goal

pub returns : goal.returns
returns c =
    let text = string_bytes c.args.text.now in
    let mid = string_bytes c.push_signed.new.text in
    let more = signed (codes "+") (beyond c.args.new.0 c.args.old.0) in
    let less = signed (codes "-") (beyond c.args.old.0 c.args.new.0) in
    let begun : mid ≡ text ++ behind more =
    c.in_ok-push_signed.ensures ∙ ap (λ r. text ++ behind (signed (codes "+") r)) c.beyond.ensures in
    on_ok c.push_signed-2.result _ _ c.push_signed-2.ensures (λ e. two text mid
    (string_bytes c.push_signed-2.new.text) more less begun
    (e ∙ ap (λ r. mid ++ behind (signed (codes "-") r)) c.beyond-2.ensures))
