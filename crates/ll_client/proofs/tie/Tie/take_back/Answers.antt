use Rattle.std.proofs.Common.{sym, ap, ◌∙◌, subst, IsSome}
use Rattle.ll_client.proofs.TieSteps.{joins}
use Rattle.ll_client.proofs.TieCalls.{seat_of, HasJoined, has_joined, may_take, took}
use Rattle.ll_client.proofs.tie.Tie.take_back.Given.{Over}
use Rattle.ll_client.proofs.tie.Tie.take_back.Goals as goal
use Rattle.ll_client.proofs.tie.Tie.take_back.Goals.{After-join_seat}

joined_is : (g : Over) (c : After-join_seat g) → HasJoined c.join_seat.new.seat.me c.args.keeper.now c.args.pass.now
joined_is g c =
    has_joined c.keeper.inside.seat.me _ c.into_seat.result.me _ _ _ c.keeper.invariant.1 c.keeper.view_is
    c.join_seat.ensures.2
    (sym (ap (λ b. b.views) c.replace-badge.ensures.value) ∙ c.into_seat.ensures.2) c.pass.view_is

pub into_seat-requires : goal.into_seat-requires
into_seat-requires g c =
    let seat = seat_of _ _ c.pass.inside.badge.views c.pass.invariant (subst IsSome (sym c.pass.view_is) c.requires) in
    (seat.1.0, ap (λ b. b.views) c.replace-badge.ensures.value ∙ seat.1.1)

pub join_seat-requires : goal.join_seat-requires
join_seat-requires g c =
    let table = c.args.self.now.named in
    let badge = c.replace-badge.ensures.value in
    let seat = seat_of _ _ c.pass.inside.badge.views c.pass.invariant (subst IsSome (sym c.pass.view_is) c.requires) in
    let is = c.into_seat.ensures in
    let its_table = is.0 ∙ ap (λ b. b.table_id) badge ∙ seat.0 ∙ sym table in
    (c.keeper.invariant.0 ∙ sym table, its_table, is.3, c.args.self.now.has_word, joins _ _ _ _)

pub load-requires : goal.load-requires
load-requires g c =
    let table = c.args.self.now.named in
    let its_table = c.join_seat.ensures.0 ∙ c.keeper.invariant.0 ∙ sym table in
    let joined = joined_is g (goal.at.load-requires g c).After-join_seat in
    (its_table, c.args.self.now.has_word, may_take _ _ _ _ _ joined c.requires)

pub invariant_of-keeper : goal.invariant_of-keeper
invariant_of-keeper g c =
    let joined = joined_is g (goal.at.invariant_of-keeper g c).After-join_seat in
    let took_it = took _ _ c.args.keeper.now c.args.pass.now joined c.requires c.load.ensures.2 in
    (c.load.ensures.0 ∙ c.join_seat.ensures.0 ∙ c.keeper.invariant.0, took_it.keeps_on)

pub returns-clause-shown : goal.returns-clause-shown
returns-clause-shown g c =
    let joined = joined_is g (goal.at.returns-clause-shown g c).After-join_seat in
    (took _ _ c.args.keeper.now c.args.pass.now joined c.requires c.load.ensures.2).shown_is

pub returns-clause-gone : goal.returns-clause-gone
returns-clause-gone g c =
    let joined = joined_is g (goal.at.returns-clause-gone g c).After-join_seat in
    (took _ _ c.args.keeper.now c.args.pass.now joined c.requires c.load.ensures.2).gone
