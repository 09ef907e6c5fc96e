use Rattle.std.proofs.Common.{◌≡◌, ℕ, None, ap, ◌∙◌, refl}
use Rattle.std.specs.Ordering.{nat_cmp}
use Rattle.ll_rights.specs.Map.{checked, empty, get, insert, remove}
use Rattle.ll_trials.proofs.tie.trade.Goals as goal

no_entry : (number : ℕ) → get (empty {X = ℕ} {R = nat_cmp}) number ≡ None
unfolding get empty
no_entry number = refl

not_second : get (insert (empty {X = ℕ} {R = nat_cmp}) 1 10) 2 ≡ None
unfolding checked get empty insert
not_second = refl

free_again : get (remove (remove (insert (insert (empty {X = ℕ} {R = nat_cmp}) 1 10) 2 20) 1) 2) 1 ≡ None
unfolding checked get empty insert remove
free_again = refl

pub shown-first-requires : goal.shown-first-requires
shown-first-requires g c = ap (λ m. get m 1) c.named-tie.ensures ∙ no_entry 1

pub shown-second-requires : goal.shown-second-requires
shown-second-requires g c =
    ap (λ m. get m 2) c.shown-first.ensures.came ∙ ap (λ m. get (insert m 1 10) 2) c.named-tie.ensures ∙ not_second

pub shown-again-requires : goal.shown-again-requires
shown-again-requires g c =
    let first = rw c.shown-first.ensures.shows at c.take_back.ensures.gone in
    let second = rw c.shown-second.ensures.shows at c.take_back-2.ensures.gone in
    let empty_is = c.named-tie.ensures in
    ap (λ m. get m 1) second ∙ ap (λ m. get (remove m 2) 1) first
    ∙ ap (λ m. get (remove (remove m 1) 2) 1) c.shown-second.ensures.came
    ∙ ap (λ m. get (remove (remove (insert m 2 20) 1) 2) 1) c.shown-first.ensures.came
    ∙ ap (λ m. get (remove (remove (insert (insert m 1 10) 2 20) 1) 2) 1) empty_is ∙ free_again
