use Rattle.std.proofs.Common.{[], sym, refl, subst, Option, string_bytes}
use Rattle.std.specs.Prelude.{option_to_list}
use Rattle.std.proofs.lemmas.List.{append-nil}
use Rattle.ll_path.specs.Path.{Path}
use Rattle.ll_why.specs.PathRows.{AddsRows}
use Rattle.ll_why.proofs.TokenTexts.{on_ok}
use Rattle.ll_why.proofs.path_rows.push_node.Goals as goal

pub returns-in-Some : goal.returns-in-Some
returns-in-Some c =
    on_ok c.push_row.result _ _ c.push_row.ensures (λ adds. subst (λ (o : Option Path). AddsRows c.args.tree.now
    c.args.domain.now c.args.style (option_to_list o) (string_bytes c.args.text.now)
    (string_bytes c.push_row.new.text)) c.in-Some.ensures adds)

pub returns-in-None : goal.returns-in-None
returns-in-None c =
    subst (λ (o : Option Path). AddsRows c.args.tree.now c.args.domain.now c.args.style (option_to_list o)
    (string_bytes c.args.text.now) (string_bytes c.args.text.now)) c.in-None.ensures
    ([], refl, sym (append-nil (string_bytes c.args.text.now)))
