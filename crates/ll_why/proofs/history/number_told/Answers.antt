use Rattle.ll_why.proofs.Numbered.{not_legal, told_of_first, told_of_legal}
use Rattle.ll_why.proofs.history.number_told.Goals as goal

pub returns-in-Ok-clause-of : goal.returns-in-Ok-clause-of
returns-in-Ok-clause-of c =
    told_of_legal c.args.tree c.args.entries.now c.args.wanted c.requires.first c.in-Ok.ensures.legal

pub returns-in-Err-Illegal-clause-of : goal.returns-in-Err-Illegal-clause-of
returns-in-Err-Illegal-clause-of c =
    let number = c.in-Err-Illegal.number in
    told_of_first c.args.tree c.args.entries.now c.args.wanted number
    (c.in-Err-Illegal.ensures.illegal number c.in-Err-Illegal.field-0-is)

pub returns-in-Err-Illegal-clause-not : goal.returns-in-Err-Illegal-clause-not
returns-in-Err-Illegal-clause-not c = λ is.
    let number = c.in-Err-Illegal.number in
    not_legal c.args.tree c.args.entries.now c.args.wanted number
    (c.in-Err-Illegal.ensures.illegal number c.in-Err-Illegal.field-0-is)
