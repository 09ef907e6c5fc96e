use Rattle.std.proofs.Common.{length, refl}
use Rattle.std.proofs.lemmas.Option.{slice_get_read}
use Rattle.ll_learn.proofs.solution.first_unmet.Goals as goal

pub returns-then-is_unmet-clause-some : goal.returns-then-is_unmet-clause-some
returns-then-is_unmet-clause-some c =
    let a = c.index-asks-number.result in
    let unmet = c.if-is_unmet.ensures.unmet refl in (
      a,
      slice_get_read c.args.asks.now (length c.args.asks.now) c.loop-number.number a refl c.loop-number-test.true
          c.index-asks-number.is,
      unmet.0,
      unmet.1,
      unmet.2,
      unmet.3,
    )
