use Rattle.std.proofs.lemmas.Result.{on_ok_weaker}
use Rattle.ll_wire.proofs.exchange.Exchange.fall_silent.Goals as goal

pub returns-clause-ready : goal.returns-clause-ready
returns-clause-ready g c = on_ok_weaker c.flush.result (λ ready. ready 0 c.requires) c.flush.ensures.ready
