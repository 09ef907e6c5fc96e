use Rattle.std.proofs.Common.{◌≡◌, arith, length, take}
use Rattle.std.proofs.lemmas.List.{length-take-le}
use Rattle.ll_learn.proofs.made.made_rights.Goals as goal

pub of_tree-requires-clause-next : goal.of_tree-requires-clause-next
of_tree-requires-clause-next c =
    let es = c.in_ok-first.first.now.now in
    let cut = c.in_ok-cut.cut in
    let some = c.in_ok-cut.ensures.some.1 in
    let few = c.in_ok-cut.ensures.few in
    let long : length (take cut es) ≡ cut = length-take-le cut es some in
    let next = c.in-Ok.ensures.next in
    omega (arith, few, long, next)
