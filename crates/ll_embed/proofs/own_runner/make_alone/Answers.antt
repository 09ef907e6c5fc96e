use Rattle.std.proofs.Common.{ap, sym, ◌∙◌}
use Rattle.ll_seq.specs.History.{Log}
use Rattle.ll_embed.specs.Alone.{own}
use Rattle.ll_embed.proofs.own_runner.make_alone.Goals as goal

pub returns-in-Ok-reply_all-clause-made : goal.returns-in-Ok-reply_all-clause-made
returns-in-Ok-reply_all-clause-made c = (
  own c.open.new.self,
  own c.reply_all.new.tree,
  c.in-Ok-open.ensures.ok,
  c.in-Ok-reply_all.ensures,
  ap (λ (h : Log). h.entries) c.into_history.ensures,
)

pub returns-else-not-is_told-clause-made : goal.returns-else-not-is_told-clause-made
returns-else-not-is_told-clause-made c = (
  own c.open.new.self,
  (sym c.is_told.ensures ∙ c.if-not-is_told.false, c.in-Err.ensures.err),
  ap (λ (h : Log). h.entries) c.into_history-in-Err.ensures,
)

pub returns-then-not-is_told-clause-fault : goal.returns-then-not-is_told-clause-fault
returns-then-not-is_told-clause-fault c =
    (sym c.is_told.ensures ∙ c.if-not-is_told.true, own c.open.new.self, c.in-Err.ensures.err)
