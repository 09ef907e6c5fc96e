use Rattle.std.proofs.Common.{◌≡◌, [], ◌∷◌, ◌∙◌, codes, string_bytes}
use Rattle.std.proofs.lemmas.Result.{IfOk-weaker}
use Rattle.ll_wire.specs.Grammar.{line_of}
use Rattle.ll_wire.proofs.EntryTokens.{entry_is}
use Rattle.ll_wire.proofs.entry.entry_text.Goals as goal

pub returns : goal.returns
returns c = IfOk-weaker c.line_text.result
    (λ text. string_bytes text ≡ line_of
    (c.as_str.result.now ∷ c.as_str-2.result.now ∷ codes "=" ∷ c.as_str-3.result.now ∷ [])) _
    (λ text e. entry_is c.args.entry.now c.as_str.result.now c.as_str-2.result.now c.as_str-3.result.now
    (string_bytes text)
    (c.as_str.ensures.value ∙ c.in_ok-client.ensures.ok) (c.as_str-2.ensures.value ∙ c.in_ok-call.ensures)
    (c.as_str-3.ensures.value ∙ c.in_ok-reply.ensures) e) c.line_text.ensures
