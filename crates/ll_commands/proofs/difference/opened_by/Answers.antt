use Rattle.std.proofs.Common.{◌≡◌, Err, rules}
use Rattle.ll_program.specs.Options.{tree_in}
use Rattle.ll_commands.proofs.Rows.{by_opening, by_setup}
use Rattle.ll_commands.proofs.difference.opened_by.Goals as goal

pub returns-in_err-setup-clause-failure : goal.returns-in_err-setup-clause-failure
returns-in_err-setup-clause-failure g c =
    let same : c.from_residual.result ≡ Err c.in_err-setup.field-0.0 = search rules in
    rw same (let l = c.in_err-setup.ensures.failure in
    (l.0, l.1, λ words. by_setup words (tree_in c.args.tree.now) l.0 c.in_err-setup.field-0.0 l.2))

pub returns-in-Err-clause-failure : goal.returns-in-Err-clause-failure
returns-in-Err-clause-failure g c =
    let s = c.in_ok-setup.ensures.setup in (
      s.0,
      s.1,
      λ words. by_opening words (tree_in c.args.tree.now) s.0 c.in_ok-setup.setup c.in-Err.failure s.2
          c.in-Err.ensures.failure,
    )

pub returns-in-Ok-clause-opened : goal.returns-in-Ok-clause-opened
returns-in-Ok-clause-opened g c =
    let s = c.in_ok-setup.ensures.setup in
    (s.0, s.1, (s.2, c.in-Ok.ensures.ok))
