use Rattle.std.proofs.Common.{inl, inr, refl}
use Rattle.ll_embed.proofs.Runs.{history_fails}
use Rattle.ll_embed.specs.Answers.{order_in}
use Rattle.ll_embed.proofs.run.history.Goals as goal

pub returns-in-Ok-history_of : goal.returns-in-Ok-history_of
returns-in-Ok-history_of c =
    let it = c.in-Ok-history_of.ensures.text in
    inl (c.in-Ok.setup, it.0, it.1, it.2, (c.in-Ok.ensures.fits, c.in-Ok.ensures.setup), it.3, it.4, refl)

pub returns-in-Err-history_of : goal.returns-in-Err-history_of
returns-in-Err-history_of c =
    inr (
      c.in-Err-history_of.fault,
      history_fails (order_in c.args.given.now) c.in-Ok.setup c.in-Err-history_of.fault
          (c.in-Ok.ensures.fits, c.in-Ok.ensures.setup) c.in-Err-history_of.ensures.fault,
      c.of_fault-in-Err-history_of.ensures,
    )
