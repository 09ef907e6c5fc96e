use Rattle.ll_learn.proofs.learned.Frame.profile.Goals as goal

pub returns-in-Err-Unmet-clause-fault : goal.returns-in-Err-Unmet-clause-fault
returns-in-Err-Unmet-clause-fault c = λ layer within meets.
    c.in-Err-Unmet.ensures.none c.in-Err-Unmet.ask c.in-Err-Unmet.field-0-is layer within meets
