use Rattle.std.proofs.Common.{false, inl, refl}
use Rattle.ll_wire.specs.declared.fault.SessionFault.TheVariants.{NoMemory}
use Rattle.ll_session.specs.declared.fault.RunFault.TheVariants.{Session}
use Rattle.ll_session.proofs.Endings.{nothing_done}
use Rattle.ll_session.proofs.run.run_over.Goals as goal

pub returns-in-Err-clause-beginning : goal.returns-in-Err-clause-beginning
returns-in-Err-clause-beginning g c =
    nothing_done c.args.manner.now.is_strict c.args.setup (Session NoMemory) (g.E.Ends.devices c.args.ends.now)
    (λ input. inl refl)
