use Rattle.ll_wire.proofs.NamedClients.{first_named}
use Rattle.ll_wire.proofs.token.client_of.Goals as goal

pub returns-then-client-eq1 : goal.returns-then-client-eq1
returns-then-client-eq1 c v is =
    first_named c.args.token.now c.in_ok-client.client v c.in_ok-client.ensures c.if-client-eq1.true is
