use Rattle.std.proofs.Common.{◌≡◌, ◌+◌, ◌-◌, ◌∷◌, [], ap, ap₂, arith, length, length-append, take, ◌∙◌, string_bytes}
use Rattle.std.proofs.Common.{string_len}
use Rattle.std.specs.Prelude.{slice_index}
use Rattle.ll_why.proofs.Ended.{front_is, last_is}
use Rattle.ll_why.proofs.words.unended.Goals as goal

pub returns : goal.returns
returns c = λ text is.
    let line = string_bytes c.args.line in
    let len : string_len c.args.line ≡ length line = c.args.line.bytes.ok.0 in
    let long : length line ≡ length text + 1 = ap length is ∙ length-append text (10 ∷ []) in
    let front : string_len c.args.line - 1 ≡ length text = omega (arith, len, long) in
    let last : slice_index line (string_len c.args.line - 1) ≡ 10 = ap₂ slice_index is front ∙ last_is text 10 in
    c.pop.ensures.ascii_bytes (omega (arith, len, long)) (omega (arith, last))
    ∙ ap₂ (λ n l. take n l) front is ∙ front_is text 10
