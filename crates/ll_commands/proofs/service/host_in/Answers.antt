use Rattle.std.proofs.Common.{List, subst}
use Rattle.std.proofs.lemmas.Result.{IfOk-weaker}
use Rattle.ll_client.specs.Closed.{IsClosed}
use Rattle.ll_client.specs.Entries.{Knows}
use Rattle.ll_commands.proofs.Hosted.{hosted}
use Rattle.ll_commands.proofs.Stops.{stops_early}
use Rattle.ll_commands.proofs.service.host_in.Goals as goal

pub returns-in-Ok-clause-served : goal.returns-in-Ok-clause-served
returns-in-Ok-clause-served g c = IfOk-weaker c.serve_all.result _ _
    (λ history h. hosted (λ it. it.rider) c.args.setup g.N.Shape.rules g.N.Shape.limit c.entry_count-entries.result
    c.listen.new.party c.into_clients-clients.result.items c.as_slice.result.now history.entries c.requires.rules
    c.requires.limit c.in-Ok.ensures.loaded c.into_clients-clients.ensures c.as_slice.ensures.value c.knows_only.ensures
    c.entry_count-entries.ensures (h c.args.setup.nodes c.requires.slots))
    c.serve_all.ensures.closed

pub returns-clause-failure : goal.returns-clause-failure
returns-clause-failure g c =
    stops_early c.args.setup g.N.Shape.rules g.N.Shape.limit c.args.options.now.port c.listen.new.party
    c.close.result.entries (g.W.Write.contents c.args.out.now) (g.W.Write.contents c.listen.new.out) c.in-Err.failure
    c.requires.rules c.requires.limit
    (subst (λ (ks : List Knows).
    IsClosed g.N.Shape.rules c.args.setup.nodes g.N.Shape.limit c.close.result.entries ks) c.into_clients.ensures
    (c.close.ensures.closed c.args.setup.nodes c.requires.slots))
    c.in-Err.ensures.failure
