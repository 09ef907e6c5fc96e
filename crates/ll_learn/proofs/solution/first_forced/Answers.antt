use Rattle.std.proofs.Common.{length, refl}
use Rattle.std.proofs.lemmas.Option.{slice_get_read}
use Rattle.ll_learn.proofs.solution.first_forced.Goals as goal

pub returns-then-is_forced : goal.returns-then-is_forced
returns-then-is_forced c =
    let a = c.asked-item.result in (
      c.loop-asked.asked-index,
      a,
      slice_get_read c.args.asks.now (length c.args.asks.now) c.loop-asked.asked-index a refl
          c.loop-asked-test.true c.asked-item.is,
      refl,
      c.if-is_forced.ensures refl,
    )
