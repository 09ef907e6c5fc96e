-- Why a run has no answer.
use Rattle.std.proofs.Common.{◌≡◌, ◌⊎◌, ◌≤◌, inl, inr, length, refl, subst, sym}
use Rattle.ll_session.specs.Run as runs
use Rattle.ll_session.specs.declared.fault.RunFault.{RunFault}
use Rattle.ll_session.specs.declared.fault.RunFault.TheVariants.{Opening, Session}
use Rattle.ll_session.specs.declared.setup.Setup.{Setup}
use Rattle.ll_wire.specs.Transcript.{most_reads}
use Rattle.ll_wire.specs.declared.fault.SessionFault.TheVariants.{NoMemory, Read, TooLong, Write}
use Rattle.ll_embed.specs.Answers.{IsSetup, MayFail, Order, fault_in}
use Rattle.ll_embed.specs.declared.fault.Fault.{Fault}
use Rattle.ll_embed.specs.declared.fault.Fault.TheVariants as faults

pub run_fails : (o : Order) (setup : Setup) (fault : RunFault) → IsSetup o setup → runs.MayEnd setup fault
    → (fault ≡ Session TooLong → most_reads ≤ length o.script) → MayFail o (fault_in fault)
run_fails o setup (Opening refusal) is may long = (setup, refusal, is, may)
run_fails o setup (Session Read) is may long = is.0
run_fails o setup (Session Write) is may long = is.0
run_fails o setup (Session NoMemory) is may long = is.0
run_fails o setup (Session TooLong) is may long = long refl

pub history_fails : (o : Order) (setup : Setup) (fault : Fault) → IsSetup o setup
    → (fault ≡ faults.NoMemory) ⊎ ((of : RunFault) × runs.MayEnd setup of
    × (of ≡ Session TooLong → most_reads ≤ length o.script) × (fault ≡ fault_in of))
    → MayFail o fault
history_fails o setup fault is (inl none) = subst (MayFail o) (sym none) is.0
history_fails o setup fault is (inr h) = subst (MayFail o) (sym h.3) (run_fails o setup h.0 is h.1 h.2)
