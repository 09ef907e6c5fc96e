use Rattle.std.proofs.Common.{◌≡◌, ◌-◌, ◌∷◌, replicate}
use Rattle.ll_rights.specs.declared.kind.Kind.TheVariants.{Dir}
use Rattle.ll_seq.specs.State.{root}
use Rattle.ll_node.specs.Lent as lent
use Rattle.ll_steps.proofs.slots.new_slots.Given as goal

abbrev pub invariant-loop : goal.invariant-loop
invariant-loop l = l.slots.items ≡ lent.filled root Dir ∷ replicate (l.counter - 1) lent.vacant
