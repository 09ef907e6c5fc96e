use Rattle.ll_wire.proofs.Lines.{utf8_front}
use Rattle.ll_wire.proofs.token.body_of.Goals as goal

pub returns-in-Err-clause-none : goal.returns-in-Err-clause-none
returns-in-Err-clause-none c =
    λ body ascii e. c.in-Err.ensures.cases.0 (utf8_front _ _ body _ c.in_ok-last.ensures.cases.0 ascii e)
