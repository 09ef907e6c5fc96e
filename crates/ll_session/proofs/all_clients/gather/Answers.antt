use Rattle.std.proofs.Common.{◌++◌, ◌∙◌, ap, sym}
use Rattle.std.specs.Prelude.{flat_map}
use Rattle.std.specs.Vec.Iter.{into_iter_items}
use Rattle.std.proofs.lemmas.List.{nil_from_length}
use Rattle.ll_session.proofs.Gathered.{no_more, one_more}
use Rattle.ll_session.proofs.all_clients.gather.Goals as goal

pub loop-room-init : goal.loop-room-init
loop-room-init g c =
    ap (λ xs. c.args.all.now.items ++ flat_map (λ room. flat_map (λ it. it.clients.items) room.items) xs)
    c.into_iter-rest.ensures.rest

pub loop-room-preserved : goal.loop-room-preserved
loop-room-preserved g c =
    one_more (λ room. flat_map (λ it. it.clients.items) room.items) c.loop-room.all.items c.add_room.new.all.items
    (c.args.all.now.items ++ flat_map (λ room. flat_map (λ it. it.clients.items) room.items) c.args.rooms.items)
    (into_iter_items c.loop-room.rest) (into_iter_items c.next.new.self) c.in-Some.room c.loop-room.invariant
    c.in-Some.ensures.items c.add_room.ensures

pub returns : goal.returns
returns g c = no_more (λ room. flat_map (λ it. it.clients.items) room.items) c.loop-room.all.items
    (c.args.all.now.items ++ flat_map (λ room. flat_map (λ it. it.clients.items) room.items) c.args.rooms.items)
    (into_iter_items c.loop-room.rest) c.loop-room.invariant
    (nil_from_length (into_iter_items c.loop-room.rest) (sym c.loop-room.rest.rest.ok.0
    ∙ c.in_default.ensures.cases.0))
