use Rattle.std.proofs.Common.{◌≡◌, [], ◌∷◌, ◌∙◌, string_bytes}
use Rattle.std.proofs.lemmas.Result.{IfOk-weaker}
use Rattle.ll_wire.specs.Grammar.{line_of}
use Rattle.ll_wire.proofs.EntryTokens.{reply_behind}
use Rattle.ll_wire.proofs.write.reply_text_behind.Goals as goal

pub returns : goal.returns
returns c = IfOk-weaker c.line_text.result
    (λ text. string_bytes text ≡ line_of (c.args.word.now ∷ c.as_str.result.now ∷ [])) _
    (λ text e. reply_behind c.args.word.now c.args.reply.now c.as_str.result.now (string_bytes text)
    (c.as_str.ensures.value ∙ c.in_ok-reply.ensures) e) c.line_text.ensures
