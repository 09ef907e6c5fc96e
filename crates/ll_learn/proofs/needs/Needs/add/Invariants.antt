use Rattle.std.proofs.Common.{◌≡◌, take, List}
use Rattle.ll_seq.specs.declared.reply.Entry.{Entry}
use Rattle.ll_learn.proofs.Gathered.{HasGathered}
use Rattle.ll_learn.proofs.needs.Needs.add.Given as goal

-- what holds behind the entries so far
abbrev pub invariant-loop-i : goal.invariant-loop-i
invariant-loop-i l =
    (front : List Entry) × (front ≡ take l.i l.entries)
    × HasGathered l.fn.tree l.client l.history l.fn.self front l.tree l.self l.watch.clients.items
