use Rattle.std.specs.Prelude.{List}
use Rattle.std.proofs.Common.{subst}
use Rattle.std.proofs.lemmas.Result.{on_ok_weaker}
use Rattle.ll_learn.specs.declared.watch.Watched.{Watched}
use Rattle.ll_learn.specs.Watched.{IsAt, is_client_of}
use Rattle.ll_learn.proofs.Openings.{all_stay, opens_one}
use Rattle.ll_learn.proofs.watch.Watch.open.Goals as goal

pub returns-in-Some-clause-on : goal.returns-in-Some-clause-on
returns-in-Some-clause-on c =
    let items = c.args.self.now.clients.items in
    let at = subst (λ (l : List Watched). IsAt (is_client_of c.args.client) l c.in-Some.i) c.deref.ensures.value
    c.in-Some.ensures.first in
    all_stay items c.args.client c.in-Some.i c.index_mut.result.now c.open.new.self at c.index_mut.ensures.value
    c.open.ensures.client

pub returns-in-Some-clause-paths : goal.returns-in-Some-clause-paths
returns-in-Some-clause-paths c =
    let items = c.args.self.now.clients.items in
    let at = subst (λ (l : List Watched). IsAt (is_client_of c.args.client) l c.in-Some.i) c.deref.ensures.value
    c.in-Some.ensures.first in
    on_ok_weaker c.open.result (λ opens other number. opens_one items c.args.client c.in-Some.i
    c.index_mut.result.now c.open.new.self at c.index_mut.ensures.value
    c.open.ensures.client c.args.descriptor c.args.inodes.items opens other number) c.open.ensures.paths
