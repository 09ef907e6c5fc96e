use Rattle.std.proofs.Common.{◌++◌, [], ap, append-nil, refl, sym, ◌∙◌, string_bytes, ◌≡◌, Err, rules}
use Rattle.ll_commands.specs.Profiles.{heading_in}
use Rattle.ll_commands.proofs.profiles.push_table.Goals as goal

pub returns-in-Ok-clause-table : goal.returns-in-Ok-clause-table
returns-in-Ok-clause-table c =
    let profile = c.args.profile.now in
    let style = c.style_among-style.result in
    let rows = string_bytes c.in_ok-rows.rows in
    let table = heading_in style profile ++ rows in (
      table,
      (
        table,
        [],
        (style, rows, c.style_among-style.ensures, c.in_ok-rows.ensures.table, refl),
        refl,
        sym (append-nil table),
      ),
      c.in-Ok.ensures
          ∙ ap (λ l. string_bytes c.args.text.now ++ (heading_in style profile ++ l)) c.as_str.ensures.value,
    )

pub returns-in_err-rows-clause-failure : goal.returns-in_err-rows-clause-failure
returns-in_err-rows-clause-failure c =
    let same : c.from_residual.result ≡ Err c.in_err-rows.field-0.0 = search rules in
    rw same c.in_err-rows.ensures.failure
