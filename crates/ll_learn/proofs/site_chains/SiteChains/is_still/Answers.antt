use Rattle.std.proofs.Common.{◌≤◌, List, length, subst}
use Rattle.std.specs.Prelude.{All}
use Rattle.std.proofs.lemmas.List.{take_all}
use Rattle.ll_learn.specs.declared.needs.Moved.{Moved}
use Rattle.ll_learn.specs.Mended.{ArePathsTo}
use Rattle.ll_learn.proofs.site_chains.SiteChains.is_still.Goals as goal

pub returns-clause-still : goal.returns-clause-still
returns-clause-still c is s chains =
    let moves = c.args.needs.now.moves.items in
    let i = c.loop-moved.moved-index in
    subst (All (λ (m : Moved). ArePathsTo s c.args.scope.now m.into.items))
    (take_all i moves (subst (λ (ms : List Moved). length ms ≤ i) c.deref-moved-items.ensures.value
    c.loop-moved-test.false)) (c.loop-moved.invariant s chains)
