use Rattle.std.proofs.Common.{sym}
use Rattle.ll_learn.proofs.needs.has_move.Goals as goal

pub returns-then-has : goal.returns-then-has
returns-then-has c = λ is.
    let item = c.in-Some.ensures.lookup in (
      c.in-Some.one.now,
      (_, item.3.0, sym item.1),
      c.has.ensures.rights c.if-has.true,
      c.has.ensures.from c.if-has.true,
      c.has.ensures.into c.if-has.true,
    )
