use Rattle.std.proofs.Common.{Option, true≢false, ap, sym, ◌∙◌}
use Rattle.std.specs.Prelude.{unwrap_or}
use Rattle.std.proofs.lemmas.Result.{IfOk-weaker}
use Rattle.ll_seq.specs.declared.client.ClientRecord.{ClientRecord}
use Rattle.ll_seq.specs.declared.reply.Reply.{Reply}
use Rattle.ll_seq.specs.State.{State, new_client}
use Rattle.ll_why.proofs.call_text.call_why.Goals as goal

pub returns : goal.returns
returns c =
    let who = sym (ap (λ (o : Option ClientRecord). unwrap_or o new_client) c.in-Some.ensures) in
    let step = c.apply-reply.ensures.step
    (λ starved. true≢false (sym (c.wants_memory.ensures.1 starved) ∙ c.if-wants_memory.false)) in
    IfOk-weaker c.command_text.result _ _ (λ text is. record {
      told = c.in_ok-told.told;
      reply = c.apply-reply.result;
      explains = c.in_ok-told.ensures c.args.client who;
      answered = (
        c.free_number-fresh.result,
        c.free_number-fresh.ensures,
        ap (λ (p : Reply × State). p.0) step,
      );
      is = is;
    }) c.command_text.ensures
