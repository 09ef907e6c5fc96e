use Rattle.std.proofs.Common.{◌≡◌, ◌∷◌, [], codes, ◌∙◌}
use Rattle.std.specs.List.{concat}
use Rattle.std.proofs.lemmas.Result.{IfOk-weaker}
use Rattle.ll_wire.specs.Grammar.{call_tokens, reply_tokens}
use Rattle.ll_why.specs.WhyJson.{words_json}
use Rattle.ll_why.proofs.why_json.call_fields.Goals as goal

pub returns : goal.returns
returns c =
    let command : c.as_str.result.now ≡ words_json (call_tokens c.args.call.now) =
    c.as_str.ensures.value ∙ c.in_ok-command.ensures in
    let answer : c.as_str-2.result.now ≡ words_json (reply_tokens c.args.reply.now) =
    c.as_str-2.ensures.value ∙ c.in_ok-answer.ensures in
    IfOk-weaker c.concat.result _ _ (λ text e. e
    ∙ (λ i. concat (codes "\"command\": " ∷ command i ∷ codes ", \"reply\": " ∷ answer i ∷ [])))
    c.concat.ensures
