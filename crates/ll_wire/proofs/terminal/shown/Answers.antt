use Rattle.std.proofs.Common.{◌≡◌, ◌∙◌, ap, string_bytes}
use Rattle.std.specs.List.{All}
use Rattle.std.proofs.lemmas.Result.{IfOk-weaker}
use Rattle.ll_wire.specs.Terminal.{IsPrinted, cut}
use Rattle.ll_wire.proofs.Printed.{printed_told}
use Rattle.ll_wire.proofs.terminal.shown.Goals as goal

pub returns-clause-printed : goal.returns-clause-printed
returns-clause-printed c =
    IfOk-weaker c.cut.result (λ it. string_bytes it ≡ cut (string_bytes c.in_ok-escaped.escaped))
    (λ it. All IsPrinted (string_bytes it))
    (λ it is. printed_told c.args.text.now (string_bytes it) (is ∙ ap cut c.in_ok-escaped.ensures.escaped))
    c.cut.ensures
