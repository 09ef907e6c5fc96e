use Rattle.std.proofs.Common.{◌≡◌, Err, rules}
use Rattle.ll_program.specs.Options.{tree_in}
use Rattle.ll_program.proofs.Known.{a_text, same_text, set_by_level, set_by_plan, unread}
use Rattle.ll_program.proofs.policy.setup_of.Goals as goal

pub returns-then-is_none-clause-setup : goal.returns-then-is_none-clause-setup
returns-then-is_none-clause-setup g c =
    let text = a_text (g.R.Read.remaining c.args.file.now) in (
      text.0,
      text.1,
      (
        c.by_level.ensures.nodes,
        c.by_level.ensures.history,
        set_by_level c.args.options.now text.0 c.by_level.result c.if-is_none.ensures c.by_level.ensures.setup,
      ),
    )

pub returns-in_err-text-clause-failure : goal.returns-in_err-text-clause-failure
returns-in_err-text-clause-failure g c =
    let same : c.from_residual.result ≡ Err c.in_err-text.field-0.0 = search rules in
    rw same (let text = a_text (g.R.Read.remaining c.args.file.now) in
    (text.0, text.1, unread (tree_in c.args.options.now) text.0 c.in_err-text.field-0.0 c.in_err-text.ensures.failure))

pub returns-clause-failure : goal.returns-clause-failure
returns-clause-failure g c = (
  c.as_slice.result.now,
  same_text (g.R.Read.remaining c.args.file.now) c.as_slice.result.now c.in_ok-text.text.items c.as_slice.ensures.value
      c.in_ok-text.ensures.text,
  c.in-Err.ensures.failure (tree_in c.args.options.now),
)

pub returns-in-Ok-clause-setup : goal.returns-in-Ok-clause-setup
returns-in-Ok-clause-setup g c =
    set_by_plan c.args.options.now c.as_slice.result.now (g.R.Read.remaining c.args.file.now) c.in-Ok.policy
    c.setup_by.result
    (same_text (g.R.Read.remaining c.args.file.now) c.as_slice.result.now c.in_ok-text.text.items
    c.as_slice.ensures.value c.in_ok-text.ensures.text)
    c.if-is_none.ensures (c.in-Ok.ensures.utf8, c.in-Ok.ensures.right)
    c.in-Ok.ensures.plan c.setup_by.ensures.nodes c.setup_by.ensures.history
    c.setup_by.ensures.setup
