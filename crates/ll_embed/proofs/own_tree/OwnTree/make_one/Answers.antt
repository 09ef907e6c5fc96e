use Rattle.std.proofs.Common.{sym, ◌∙◌}
use Rattle.ll_embed.proofs.Owned.{held_is_none}
use Rattle.ll_embed.proofs.own_tree.OwnTree.make_one.Goals as goal

pub returns-in_default-clause-ok : goal.returns-in_default-clause-ok
returns-in_default-clause-ok c =
    let made = c.in_default.ensures.err in (made.0, made.1, held_is_none made.0 made.2)

pub returns-then-is_refused-clause-err : goal.returns-then-is_refused-clause-err
returns-then-is_refused-clause-err c = (c.in-Ok.ensures.ok, sym c.is_refused.ensures ∙ c.if-is_refused.true)

pub returns-clause-ok : goal.returns-clause-ok
returns-clause-ok c = (c.in-Ok.reply, c.in-Ok.ensures.ok, sym c.is_refused.ensures ∙ c.if-is_refused.false)
