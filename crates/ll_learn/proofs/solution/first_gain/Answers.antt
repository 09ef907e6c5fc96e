use Rattle.std.proofs.Common.{length, sym, refl}
use Rattle.std.proofs.lemmas.Option.{slice_get_read}
use Rattle.ll_learn.proofs.solution.first_gain.Goals as goal

pub returns-then-not-is_gainless_without-clause-some : goal.returns-then-not-is_gainless_without-clause-some
returns-then-not-is_gainless_without-clause-some c =
    let m = c.moved-item.result in (
      c.loop-moved.moved-index,
      m,
      slice_get_read c.args.moves.now (length c.args.moves.now) c.loop-moved.moved-index m
          refl c.loop-moved-test.true c.moved-item.is,
      refl,
      sym c.if-not-is_gainless_without.ensures,
    )
