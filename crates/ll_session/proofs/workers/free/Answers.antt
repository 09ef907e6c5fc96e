use Rattle.std.proofs.Common.{◌≡◌, ◌∙◌, [], ap, length, subst, sym}
use Rattle.std.specs.List.{All}
use Rattle.std.specs.Vec.Iter.{into_iter_items}
use Rattle.std.proofs.lemmas.List.Elements.{All-head, All-tail}
use Rattle.ll_session.proofs.workers.free.Goals as goal

pub loop-room-init : goal.loop-room-init
loop-room-init g c = subst (All (λ room. room.items ≡ [])) (sym c.into_iter-rest.ensures.rest) c.requires

pub loop-room-preserved : goal.loop-room-preserved
loop-room-preserved g c = All-tail (λ room. room.items ≡ []) c.in-Some.room (into_iter_items c.next.new.self)
    (subst (All (λ room. room.items ≡ [])) c.in-Some.ensures.items c.loop-room.invariant)

pub destroy_empty-requires : goal.destroy_empty-requires
destroy_empty-requires g c = c.in-Some.room.ok.0 ∙ ap length (All-head (λ room. room.items ≡ []) c.in-Some.room
    (into_iter_items c.next.new.self)
    (subst (All (λ room. room.items ≡ [])) c.in-Some.ensures.items c.loop-room.invariant))
