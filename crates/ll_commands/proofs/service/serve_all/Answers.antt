use Rattle.std.specs.Prelude.{flat_map}
use Rattle.ll_commands.proofs.Hosted.{with_others}
use Rattle.ll_commands.proofs.service.serve_all.Goals as goal

pub returns-clause-closed : goal.returns-clause-closed
returns-clause-closed g c nodes slots =
    with_others (λ it. it.rider) g.N.Shape.rules nodes g.N.Shape.limit c.close-2.result.entries c.args.clients.items
    (flat_map (λ room. flat_map (λ it. it.clients.items) room.items) c.in-Ok.rooms.items) c.gather.new.all.items
    c.gather.ensures (c.close-2.ensures.closed nodes slots)
