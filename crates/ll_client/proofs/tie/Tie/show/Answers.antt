use Rattle.std.proofs.Common.{sym, ap, ◌∙◌}
use Rattle.ll_rights.specs.Map.{get}
use Rattle.ll_client.proofs.TieSteps.{splits}
use Rattle.ll_client.proofs.TieCalls.{may_give}
use Rattle.ll_client.proofs.tie.Tie.show.Goals as goal

pub load-requires : goal.load-requires
load-requires g c =
    let table = c.args.self.now.named in
    let free = ap (λ m. get m g.entry.0) c.keeper.view_is ∙ c.requires.1.1 in
    (c.keeper.invariant.0 ∙ sym table, c.args.self.now.has_word, may_give _ _ _ _ g.entry c.keeper.invariant.1 free)

pub split_seat-seat-requires : goal.split_seat-seat-requires
split_seat-seat-requires g c =
    let table = c.args.self.now.named in
    (c.load.ensures.0 ∙ c.keeper.invariant.0 ∙ sym table, c.args.self.now.has_word, splits _ _)
