use Rattle.std.proofs.Common.{Err, ap, subst, sym}
use Rattle.ll_session.specs.declared.fault.RunFault.{RunFault}
use Rattle.ll_embed.specs.Answers.{MayFail, order_in}
use Rattle.ll_embed.specs.declared.fault.Fault.{Fault}
use Rattle.ll_embed.proofs.Runs.{run_fails}
use Rattle.ll_embed.proofs.run.run.Goals as goal

pub returns-in-Ok-clause-ran : goal.returns-in-Ok-clause-ran
returns-in-Ok-clause-ran c =
    (c.in_ok-setup.setup, (c.in_ok-setup.ensures.fits, c.in_ok-setup.ensures.setup), c.in-Ok.ensures.ran)

pub returns-in-Err-clause-fault : goal.returns-in-Err-clause-fault
returns-in-Err-clause-fault c =
    subst (λ (fault : Fault). MayFail (order_in c.args.given.now) fault) (sym c.fault_of.ensures)
    (run_fails (order_in c.args.given.now) c.in_ok-setup.setup c.in-Err.fault
    (c.in_ok-setup.ensures.fits, c.in_ok-setup.ensures.setup)
    c.in-Err.ensures.fault (λ is. c.in-Err.ensures.long (ap (λ (f : RunFault). Err f) is)))
