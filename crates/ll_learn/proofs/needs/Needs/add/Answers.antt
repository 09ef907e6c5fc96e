use Rattle.std.specs.Prelude.{◌+◌, [], ◌∷◌, ◌++◌}
use Rattle.std.proofs.Common.{ap, sym}
use Rattle.ll_learn.specs.Faults.{IsFault}
use Rattle.ll_learn.specs.PassedCalls.{is_client, none_known}
use Rattle.ll_learn.specs.WatchedClients.{joined, opened_behind}
use Rattle.ll_learn.proofs.Gathered.{and_one, ends, entry_of, goes_on, of_err, so_long, stops}
use Rattle.ll_learn.proofs.needs.Needs.add.Goals as goal

pub returns-in_err-has_room-clause-fault : goal.returns-in_err-has_room-clause-fault
returns-in_err-has_room-clause-fault c =
    of_err c.from_residual.result c.in_err-has_room.field-0.0 (IsFault c.args.tree.now c.args.client c.args.entries.now)
    c.from_residual.ensures.1 (c.in_err-has_room.ensures.fault c.args.entries.now)

pub returns-in_err-follow-clause-fault : goal.returns-in_err-follow-clause-fault
returns-in_err-follow-clause-fault c =
    let so_far = c.loop-i.invariant in
    of_err c.from_residual-in_err-follow.result c.in_err-follow.field-0.0
    (IsFault c.args.tree.now c.args.client c.args.entries.now) c.from_residual-in_err-follow.ensures.1
    (stops c.args.tree.now c.args.client c.args.history c.args.self.now so_far.0 c.args.entries.now c.loop-i.tree
    c.loop-i.self c.loop-i.watch.clients.items so_far.2 c.loop-i.i c.index-entries-i.result so_far.1 c.loop-i-test.true
    c.index-entries-i.is c.in_err-follow.field-0.0 c.in_err-follow.ensures.fault)

pub loop-i-preserved : goal.loop-i-preserved
loop-i-preserved c =
    let s = c.args.tree.now in
    let client = c.args.client in
    let history = c.args.history in
    let old = c.args.self.now in
    let all = c.args.entries.now in
    let e = c.index-entries-i.result in
    let so_far = c.loop-i.invariant in
    let front = so_far.0 in
    let clients = c.loop-i.watch.clients.items in
    let long = so_long s client history old front all c.loop-i.tree c.loop-i.self clients so_far.2 c.loop-i.i e so_far.1
    c.loop-i-test.true c.index-entries-i.is in (
      front ++ e ∷ [],
      and_one s client history old front all c.loop-i.tree c.loop-i.self clients so_far.2 c.loop-i.i e so_far.1
          c.loop-i-test.true c.index-entries-i.is,
      goes_on s client history old front c.loop-i.tree c.loop-i.self clients so_far.2 e
          (entry_of history (c.loop-i.i + 1)) c.follow.new.self c.follow.new.tree c.follow.new.watch.clients.items
          (ap (λ n. entry_of history (n + 1)) (sym long))
          (c.in_ok-follow.ensures.ok (joined (is_client client) front) (opened_behind s none_known front)
          so_far.2.watch),
    )

pub returns-clause-adds : goal.returns-clause-adds
returns-clause-adds c =
    let so_far = c.loop-i.invariant in
    (ends c.args.tree.now c.args.client c.args.history c.args.self.now so_far.0 c.args.entries.now c.loop-i.tree
    c.loop-i.self c.loop-i.watch.clients.items c.loop-i.i so_far.1 c.loop-i-test.false so_far.2).adds
