use Rattle.std.proofs.Common.{◌++◌, ap, ◌∙◌, string_bytes}
use Rattle.ll_why.specs.Difference.{change_of}
use Rattle.ll_why.specs.Table.{behind}
use Rattle.ll_why.proofs.TokenTexts.{on_ok}
use Rattle.ll_why.proofs.difference.push_node_change.Goals as goal

pub returns : goal.returns
returns c =
    on_ok c.push_change_of.result _ _ c.push_change_of.ensures (λ e. e
    ∙ ap (λ k. string_bytes c.args.text.now ++ behind (change_of k c.args.old.now c.args.new.now)) c.text.ensures)
