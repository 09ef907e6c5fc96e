use Rattle.std.proofs.Common.{◌≡◌, ◌∷◌, [], ◌∙◌, decimal, string_bytes, rules}
use Rattle.std.proofs.lemmas.Result.{IfOk-weaker}
use Rattle.ll_wire.specs.Grammar.{line_of, call_tokens, client_tokens}
use Rattle.ll_wire.proofs.Joined.{lined}
use Rattle.ll_wire.proofs.EntryTokens.{call_behind}
use Rattle.ll_wire.proofs.write.command_text.Goals as goal

pub returns-then-client-eq1 : goal.returns-then-client-eq1
returns-then-client-eq1 c = rw c.if-client-eq1.true
    (lined (call_tokens c.args.call.now) _ c.ended.result c.in_ok-text.ensures c.ended.ensures)

pub returns : goal.returns
returns c =
    let named : client_tokens c.args.client ≡ (64 ∷ decimal c.args.client) ∷ [] = search rules in
    rw named (IfOk-weaker c.line_text.result
    (λ text. string_bytes text ≡ line_of (c.as_str.result.now ∷ c.as_str-2.result.now ∷ [])) _
    (λ text e. call_behind c.args.client c.args.call.now c.as_str.result.now c.as_str-2.result.now (string_bytes text)
    (c.as_str.ensures.value ∙ c.in_ok-client.ensures) (c.as_str-2.ensures.value ∙ c.in_ok-text.ensures) e)
    c.line_text.ensures)
