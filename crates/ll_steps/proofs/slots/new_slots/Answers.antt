use Rattle.std.proofs.Common.{◌≡◌, ℕ, ◌≤◌, ◌+◌, ◌-◌, List, ◌∷◌, ◌++◌, [], replicate, ap, arith, ◌∙◌}
use Rattle.std.proofs.lemmas.List.{replicate_more}
use Rattle.ll_node.specs.declared.held.Held.{Held}
use Rattle.ll_node.specs.Lent.{vacant}
use Rattle.ll_steps.proofs.slots.new_slots.Goals as goal

one_more : (slots : List Held) (first : Held) (count : ℕ) → 1 ≤ count → slots ≡ first ∷ replicate (count - 1) vacant
    → (slots ++ vacant ∷ []) ≡ first ∷ replicate (count + 1 - 1) vacant
one_more slots first count some e =
    let more : count - 1 + 1 ≡ count + 1 - 1 = omega arith in
    ap (λ xs. xs ++ vacant ∷ []) e
    ∙ ap (λ xs. first ∷ xs) (replicate_more (count - 1) vacant ∙ ap (λ n. replicate n vacant) more)

pub loop-preserved : goal.loop-preserved
loop-preserved c = c.in_ok-push-2.ensures.items ∙ ap (λ held. c.loop.slots.items ++ held ∷ []) c.vacant.ensures
    ∙ one_more c.loop.slots.items _ c.loop.counter c.loop.auto.counter c.loop.invariant
