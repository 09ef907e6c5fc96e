use Rattle.std.proofs.Common.{◌∙◌, ap, sym}
use Rattle.ll_wire.proofs.LeftToRead.{held_some}
use Rattle.ll_wire.proofs.exchange.Exchange.fill.Goals as goal
use Rattle.ll_wire.proofs.exchange.Exchange.fill.Goals.{then-self-via-then-self}
use Rattle.ll_wire.proofs.exchange.Exchange.fill.Goals.{then-self-via-else-self+then-self-2}

pub returns-then-self-clause-some : goal.returns-then-self-clause-some
returns-then-self-clause-some g c none = elim c.then-self.branch [
  | then-self-via-then-self w ↦ (let i = c.self.invariant.1 in
      absurd (held_some c.self.inside.chunk.items c.self.inside.start c.self.inside.end w.if-self.true i
      (ap (λ r. r.bytes) c.self.view_is ∙ none)))
  | then-self-via-else-self+then-self-2 w ↦ sym (ap (λ r. r.is_ended) c.self.view_is) ∙ w.if-self-2.true
]
