use Rattle.std.specs.Prelude.{◌≡◌, ◌≢◌, ℕ}
use Rattle.std.proofs.lemmas.Iterator.{YieldsList-from_slice, IsFirst-from_position}
use borrow.Author.Tests.{tests}
use Rattle.std.proofs.Common.{rules}
use Rattle.ll_node.proofs.MadeSlots.{IsPlace, it_stands, it_is_away}
use Rattle.ll_node.proofs.creation.place_of.Goals as goal

place : (c : goal.After-position) → IsPlace c.args.slot c.args.slots.now c.position.result
place c =
    IsFirst-from_position _ _ c.position.result (λ (k : ℕ). k ≡ c.args.slot) (λ (k : ℕ). k ≢ c.args.slot)
    c.position.ensures.ran
    (YieldsList-from_slice c.args.slots.now cc) (λ x q k. search (rules, tests)) (λ x q k. search (rules, tests))

pub returns-clause-some : goal.returns-clause-some
returns-clause-some c = it_stands c.args.slot c.args.slots.now c.position.result (place c)

pub returns-clause-none : goal.returns-clause-none
returns-clause-none c = it_is_away c.args.slot c.args.slots.now c.position.result (place c)
