use Rattle.std.proofs.Common.{◌≡◌, rules}
use Rattle.ll_check.proofs.Verdicts.{right_found, right_is_utf8}
use Rattle.ll_check.proofs.wanted.right_of.Goals as goal

pub returns-in-Ok : goal.returns-in-Ok
returns-in-Ok c =
    let same : c.in-Ok.text.now ≡ c.args.text.now = search rules in
    right_found c.args.text.now c.in-Ok.text.now c.parse.result same c.parse.ensures.known c.parse.ensures.found
    c.parse.ensures.none

pub returns-in-Err : goal.returns-in-Err
returns-in-Err c = λ right h. c.in-Err.ensures.cases.0 (right_is_utf8 c.args.text.now right h)
