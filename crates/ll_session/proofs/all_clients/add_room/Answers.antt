use Rattle.std.proofs.Common.{◌++◌, ◌∙◌, ap, sym}
use Rattle.std.specs.Prelude.{flat_map}
use Rattle.std.specs.Vec.Iter.{into_iter_items}
use Rattle.std.proofs.lemmas.List.{nil_from_length}
use Rattle.ll_session.proofs.Gathered.{no_more, one_more}
use Rattle.ll_session.proofs.all_clients.add_room.Goals as goal

pub loop-served-init : goal.loop-served-init
loop-served-init g c =
    ap (λ xs. c.args.all.now.items ++ flat_map (λ it. it.clients.items) xs) c.into_iter-rest.ensures.rest

pub loop-served-preserved : goal.loop-served-preserved
loop-served-preserved g c = one_more (λ it. it.clients.items) c.loop-served.all.items c.add_all.new.all.items
    (c.args.all.now.items ++ flat_map (λ it. it.clients.items) c.args.room.items)
    (into_iter_items c.loop-served.rest) (into_iter_items c.next.new.self) c.in-Some.served c.loop-served.invariant
    c.in-Some.ensures.items c.add_all.ensures

pub returns : goal.returns
returns g c = no_more (λ it. it.clients.items) c.loop-served.all.items
    (c.args.all.now.items ++ flat_map (λ it. it.clients.items) c.args.room.items)
    (into_iter_items c.loop-served.rest) c.loop-served.invariant
    (nil_from_length (into_iter_items c.loop-served.rest) (sym c.loop-served.rest.rest.ok.0
    ∙ c.in_default.ensures.cases.0))
