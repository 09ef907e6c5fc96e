use Rattle.std.proofs.Common.{length, sym, refl}
use Rattle.std.proofs.lemmas.Option.{slice_get_read}
use Rattle.ll_learn.proofs.solution.first_ungranted.Goals as goal

pub returns-then-not-is_granted_without-clause-some : goal.returns-then-not-is_granted_without-clause-some
returns-then-not-is_granted_without-clause-some c =
    let a = c.asked-item.result in (
      c.loop-asked.asked-index,
      a,
      slice_get_read c.args.asks.now (length c.args.asks.now) c.loop-asked.asked-index a refl
          c.loop-asked-test.true c.asked-item.is,
      refl,
      sym c.if-not-is_granted_without.ensures,
    )
