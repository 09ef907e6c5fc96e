use Rattle.std.proofs.Common.{inl, inr}
use Rattle.ll_embed.proofs.run.transcript.Goals as goal

pub returns-in-Ok : goal.returns-in-Ok
returns-in-Ok c =
    let ran = c.in-Ok.ensures.ran in
    inl (
      ran.0,
      c.in-Ok.ran.run.stop,
      c.in-Ok.ran.run.history.entries,
      ran.1,
      ran.2,
      c.in-Ok.ensures.lax,
      c.status_of_stop.ensures,
    )

pub returns-in-Err : goal.returns-in-Err
returns-in-Err c = inr (c.in-Err.fault, c.in-Err.ensures.fault, c.of_fault.ensures)
