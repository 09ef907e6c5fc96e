use Rattle.std.proofs.Common.{◌++◌, [], ap, sym, refl, ◌∙◌, string_bytes}
use Rattle.std.proofs.lemmas.List.{append-nil}
use Rattle.ll_why.specs.PathRows.{row_in}
use Rattle.ll_why.proofs.path_rows.push_row.Goals as goal

pub returns : goal.returns
returns c =
    let row = row_in c.args.style c.args.path.now c.in_ok-told.told in (
      row,
      (c.in_ok-told.told, [], c.in_ok-told.ensures, refl, sym (append-nil row)),
      c.in_ok-push_str.ensures.bytes ∙ ap (λ l. string_bytes c.args.text.now ++ l)
          (c.as_str.ensures.value ∙ c.in_ok-row.ensures),
    )
