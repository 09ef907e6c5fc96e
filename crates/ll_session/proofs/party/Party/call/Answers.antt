use Rattle.std.proofs.Common.{map, slice_set}
use Rattle.ll_session.proofs.Acts.{asks_last, others_bring_none}
use Rattle.ll_session.proofs.Lists.{asks_them, no_spawn}
use Rattle.ll_session.proofs.party.Party.call.Goals as goal

pub invariant_of-self : goal.invariant_of-self
invariant_of-self g c =
    let items = c.self.inside.clients.items in
    let limit = g.N.Shape.limit in
    let before = c.index_mut.result.now in
    let after = c.call-made.new.me in
    let made = c.call-made.result in
    let gains = c.call-made.ensures.gains in (
      asks_last limit c.args.self.now (map (λ it. it.rider) (slice_set items c.args.place after)) c.args.place
          c.args.call made
          (asks_them (λ it. it.rider) c.args.self.now c.meet.new.self items c.args.place before c.self.view_is
          c.meet.ensures c.index_mut.ensures.value limit c.args.call made after c.requires.call
          (others_bring_none limit c.args.call before.rider after.rider made (no_spawn c.args.call c.requires.childless)
          gains)
          gains),
      c.self.invariant.1,
    )

pub returns : goal.returns
returns g c =
    let limit = g.N.Shape.limit in
    let before = c.index_mut.result.now in
    let after = c.call-made.new.me in
    let made = c.call-made.result in
    let gains = c.call-made.ensures.gains in (
      made,
      asks_them (λ it. it.rider) c.args.self.now c.meet.new.self c.self.inside.clients.items c.args.place before
          c.self.view_is c.meet.ensures c.index_mut.ensures.value limit c.args.call made after
          c.requires.call
          (others_bring_none limit c.args.call before.rider after.rider made (no_spawn c.args.call c.requires.childless)
          gains)
          gains,
      c.reply_to.ensures,
    )
