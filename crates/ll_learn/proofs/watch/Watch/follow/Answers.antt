use Rattle.std.specs.Prelude.{Option}
use Rattle.std.proofs.Common.{subst, sym, ◌∙◌}
use Rattle.std.proofs.lemmas.Result.{on_ok_weaker}
use Rattle.ll_learn.specs.declared.watch.Opened as opening
use Rattle.ll_learn.specs.WatchedClients.{Opens}
use Rattle.ll_learn.proofs.Watches.{joins_too, opens_more, stays_out, stays_so, unspawned}
use Rattle.ll_learn.proofs.watch.Watch.follow.Goals as goal

pub returns-in-Some : goal.returns-in-Some
returns-in-Some c =
    on_ok_weaker c.open.result (λ paths s is_on known opens may watch.
    let e = c.args.entry.now in
    let clients = c.args.self.now.clients.items in
    let opened = subst (λ (o : Option opening.Opened). Opens s e o) c.in-Some.is opens in
    opens_more s is_on known e clients may watch
    (unspawned s is_on known e clients may watch c.in-Some.opened opened) c.in-Some.opened c.open.new.self.clients.items
    opened c.open.ensures.on paths) c.open.ensures.paths

pub returns-in_default-spawned_client : goal.returns-in_default-spawned_client
returns-in_default-spawned_client c s is_on known opens may watch =
    let e = c.args.entry.now in
    let closed = subst (λ (o : Option opening.Opened). Opens s e o) c.in_default.is opens in
    stays_so s is_on known e c.args.self.now.clients.items may watch c.in_default-spawned_client.ensures.none closed

pub join-requires : goal.join-requires
join-requires c = c.requires c.in-Some-spawned_client.child c.in-Some-spawned_client.ensures.some

pub returns-then-is_on : goal.returns-then-is_on
returns-then-is_on c =
    on_ok_weaker c.join.result (λ more s is_on known opens may watch.
    let e = c.args.entry.now in
    let closed = subst (λ (o : Option opening.Opened). Opens s e o) c.in_default.is opens in
    joins_too s is_on known e c.args.self.now.clients.items may watch c.in-Some-spawned_client.child
    c.in-Some-spawned_client.ensures.some closed c.join.new.self.clients.items
    (sym (watch.on e.client) ∙ sym c.is_on.ensures ∙ c.if-is_on.true) more) c.join.ensures

pub returns-else-is_on : goal.returns-else-is_on
returns-else-is_on c s is_on known opens may watch =
    let e = c.args.entry.now in
    let closed = subst (λ (o : Option opening.Opened). Opens s e o) c.in_default.is opens in
    stays_out s is_on known e c.args.self.now.clients.items may watch c.in-Some-spawned_client.child
    c.in-Some-spawned_client.ensures.some closed (sym (watch.on e.client) ∙ sym c.is_on.ensures ∙ c.if-is_on.false)
