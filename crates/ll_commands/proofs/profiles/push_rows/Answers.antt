use Rattle.std.proofs.Common.{◌++◌, ap, append_assoc, ◌∙◌, string_bytes}
use Rattle.ll_commands.specs.Profiles.{heading_in}
use Rattle.ll_commands.proofs.profiles.push_rows.Goals as goal

pub returns : goal.returns
returns c =
    let rows = c.args.rows.now in
    c.in_ok-push_str.ensures.bytes ∙ ap (λ l. l ++ rows) c.in_ok-push_heading.ensures
    ∙ append_assoc (string_bytes c.args.text.now) (heading_in c.args.style c.args.profile.now) rows
