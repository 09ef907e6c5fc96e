use Rattle.std.proofs.Common.{Err, List, ap, inr, ◌∙◌}
use Rattle.std.proofs.lemmas.Result.{IfOk-weaker}
use Rattle.ll_audit.specs.Saved.{saved_text}
use Rattle.ll_session.specs.declared.fault.RunFault.{RunFault}
use Rattle.ll_seq.specs.declared.reply.Entry.{Entry}
use Rattle.ll_wire.specs.declared.header.Header.{Header}
use Rattle.ll_embed.proofs.run.history_of.Goals as goal

pub returns-in-Ok-clause-text : goal.returns-in-Ok-clause-text
returns-in-Ok-clause-text c = IfOk-weaker c.saved.result _ _ (λ text is. (
  c.in-Ok.ran.text.items,
  c.in-Ok.ran.run.stop,
  c.in-Ok.ran.run.history.entries,
  c.in-Ok.ensures.ran,
  is ∙ ap (λ (es : List Entry). saved_text c.header_of-header.result es) c.entries.ensures.entries
      ∙ ap (λ (h : Header). saved_text h c.in-Ok.ran.run.history.entries) c.header_of-header.ensures.header,
)) c.saved.ensures.text

pub returns-in-Err-clause-fault : goal.returns-in-Err-clause-fault
returns-in-Err-clause-fault c = inr (
  c.in-Err.fault,
  c.in-Err.ensures.fault,
  (λ is. c.in-Err.ensures.long (ap (λ (f : RunFault). Err f) is)),
  c.fault_of.ensures,
)
