use Rattle.std.proofs.Common.{rules}
use Rattle.ll_journal.proofs.SpawnedClients.{spawns}
use Rattle.ll_journal.proofs.direct.spawn.Goals as goal

pub returns-clause-ok : goal.returns-clause-ok
returns-clause-ok c =
    spawns c.args.rules c.args.place c.args.seats.now.items c.args.table.now c.in_ok-number.number
    c.seat_client.new.seats.items c.seat_client.new.table c.open_all.new.self
    c.index.result.now c.in_ok-child.child c.requires.place c.index.ensures c.in_ok-child.ensures
    c.in_ok-number.ensures.number c.in_ok-number.ensures.ok
    c.len.result c.index-2.result.now c.descriptors.result.now (search rules) c.index-2.ensures c.descriptors.ensures
    c.open_all.ensures.facts c.seat_client.ensures.rest c.open_all.ensures.rest
