use Rattle.std.proofs.Common.{map, slice_set, sym, ap, inl, inr, refl, arith}
use Rattle.ll_seq.specs.declared.call.Call.TheVariants.{Spawn}
use Rattle.ll_seq.specs.declared.reply.Reply.TheVariants.{Spawned}
use Rattle.ll_client.specs.CallStart.{childless}
use Rattle.ll_client.specs.Entries.{Knows}
use Rattle.ll_session.proofs.Acts.{asks_last, childless_brings_none}
use Rattle.ll_session.proofs.Leadings.{refusal_of}
use Rattle.ll_session.proofs.Lists.{asks_them, parent_last, parent_seen, spawns_them}
use Rattle.ll_session.proofs.party.Party.spawn.Goals as goal

pub invariant_of-self : goal.invariant_of-self
invariant_of-self g c = (
  parent_last (λ it. it.rider) c.args.self.now c.meet.new.self c.self.inside.clients.items c.args.place
      c.index_mut.result.now c.self.view_is c.meet.ensures c.index_mut.ensures.value c.spawn-child.new.me
      c.in-Ok.ensures.child.0.0,
  c.self.invariant.1,
)

pub add-requires : goal.add-requires
add-requires g c =
    let seen = parent_seen (λ it. it.rider) c.args.self.now c.meet.new.self c.self.inside.clients.items c.args.place
    c.index_mut.result.now c.self.view_is c.meet.ensures c.index_mut.ensures.value c.spawn-child.new.me
    c.in-Ok.ensures.child.0.0 in
    let same = ap (λ (k : Knows). k.seen) c.in-Ok.ensures.child.1 in
    omega (arith, seen, same)

pub returns-in-Ok : goal.returns-in-Ok
returns-in-Ok g c =
    let child = c.in-Ok.child.rider in
    inl (
      child.number,
      refl,
      spawns_them (λ it. it.rider) c.args.self.now c.meet.new.self c.self.inside.clients.items c.args.place
          c.index_mut.result.now c.self.view_is c.meet.ensures c.index_mut.ensures.value child.number
          c.spawn-child.new.me
          child c.add.new.self c.in-Ok.ensures.child.0 c.in-Ok.ensures.child.1 c.add.ensures,
      ap Spawned c.number-number.ensures,
    )

pub invariant_of-self-in-Err : goal.invariant_of-self-in-Err
invariant_of-self-in-Err g c =
    let items = c.self.inside.clients.items in
    let limit = g.N.Shape.limit in
    let made = childless c.in-Err.errno in
    let after = c.spawn-child.new.me in (
      asks_last limit c.args.self.now (map (λ it. it.rider) (slice_set items c.args.place after)) c.args.place Spawn
          made
          (asks_them (λ it. it.rider) c.args.self.now c.meet.new.self items c.args.place c.index_mut.result.now
          c.self.view_is
          c.meet.ensures c.index_mut.ensures.value limit Spawn made after refl (childless_brings_none c.in-Err.errno)
          c.in-Err.ensures.alone),
      c.self.invariant.1,
    )

pub returns-in-Err : goal.returns-in-Err
returns-in-Err g c =
    let made = childless c.in-Err.errno in
    inr (
      made,
      asks_them (λ it. it.rider) c.args.self.now c.meet.new.self c.self.inside.clients.items c.args.place
          c.index_mut.result.now c.self.view_is c.meet.ensures c.index_mut.ensures.value g.N.Shape.limit Spawn made
          c.spawn-child.new.me refl (childless_brings_none c.in-Err.errno) c.in-Err.ensures.alone,
      sym (refusal_of c.in-Err.errno),
    )
