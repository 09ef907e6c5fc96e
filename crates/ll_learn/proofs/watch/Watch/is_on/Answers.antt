use Rattle.std.specs.Prelude.{List}
use Rattle.std.proofs.Common.{subst, sym}
use Rattle.ll_learn.specs.declared.watch.Watched.{Watched}
use Rattle.ll_learn.specs.Watched.{IsAt, is_client_of}
use Rattle.ll_learn.proofs.Positions.{some_there}
use Rattle.ll_learn.proofs.watch.Watch.is_on.Goals as goal

pub returns-in-Some : goal.returns-in-Some
returns-in-Some c =
    let at = subst (λ (l : List Watched). IsAt (is_client_of c.args.client) l c.in-Some.field-0)
    c.deref.ensures.value c.in-Some.ensures.first in
    sym (some_there (is_client_of c.args.client) c.args.self.now.clients.items c.in-Some.field-0 at)
