use Rattle.std.proofs.Common.{ap, ◌∙◌}
use Rattle.std.specs.List.{join_with_byte}
use Rattle.std.proofs.lemmas.Result.{IfOk-weaker}
use Rattle.ll_wire.specs.Grammar.{call_tokens}
use Rattle.ll_why.specs.Quoted.{json_string}
use Rattle.ll_why.proofs.words.call_words.Goals as goal

pub returns : goal.returns
returns c =
    let words = join_with_byte 32 (call_tokens c.args.call.now) in
    IfOk-weaker c.json_string.result _ _ (λ text e. e
    ∙ ap json_string (c.as_str.ensures.value ∙ c.unended-words.ensures words c.in_ok-call_line.ensures))
    c.json_string.ensures
