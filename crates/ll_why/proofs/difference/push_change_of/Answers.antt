use Rattle.std.proofs.Common.{[], ◌∷◌, string_bytes}
use Rattle.ll_why.specs.Difference.{rights_change}
use Rattle.ll_why.proofs.TokenTexts.{on_ok, two}
use Rattle.ll_why.proofs.difference.push_change_of.Goals as goal

pub returns : goal.returns
returns c =
    on_ok c.push_rights_change.result _ _ c.push_rights_change.ensures (λ e. two (string_bytes c.args.text.now)
    (string_bytes c.push_token.new.text) (string_bytes c.push_rights_change.new.text) (c.args.word.now ∷ [])
    (rights_change c.args.old.now c.args.new.now) c.in_ok-push_token.ensures e)
