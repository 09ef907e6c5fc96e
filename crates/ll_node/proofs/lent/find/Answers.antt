use Rattle.std.specs.Prelude.{◌≡◌, ◌≢◌}
use Rattle.std.proofs.lemmas.Iterator.{YieldsList-from_slice, IsFirst-from_position}
use borrow.Author.Tests.{tests}
use Rattle.std.proofs.Common.{rules}
use Rattle.ll_node.specs.declared.held.Held.{Held}
use Rattle.ll_node.proofs.FirstPlace.{IsPlace, place_holds, all_miss}
use Rattle.ll_node.proofs.lent.find.Goals as goal

place : (c : goal.After-position) → IsPlace c.args.inode c.args.lent.now c.position.result
place c =
    IsFirst-from_position _ _ c.position.result (λ (held : Held). held.inode ≡ c.args.inode)
    (λ (held : Held). held.inode ≢ c.args.inode) c.position.ensures.ran
    (YieldsList-from_slice c.args.lent.now cc) (λ x q k. search (rules, tests)) (λ x q k. search (rules, tests))

pub returns-clause-some : goal.returns-clause-some
returns-clause-some c = place_holds c.args.inode c.args.lent.now c.position.result (place c)

pub returns-clause-none : goal.returns-clause-none
returns-clause-none c = all_miss c.args.inode c.args.lent.now c.position.result (place c)
