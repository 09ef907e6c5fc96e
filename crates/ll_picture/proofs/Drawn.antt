-- How many lines are drawn.
use Rattle.std.proofs.Common.{◌≡◌, ◌∙◌, ap, ℕ, zero, suc, ◌+◌, ◌≤◌, Bool, true, None, Option, refl, arith, cond}
use Rattle.std.proofs.Common.{subst, sym}
use Rattle.std.specs.Prelude.{nat_le}
use Rattle.std.specs.Option.{option_map_or}
use Rattle.std.proofs.lemmas.Bool.{le-leb}
use Rattle.ll_picture.specs.Windows.{drawn_of, has_line}
use Rattle.ll_picture.specs.declared.window.Window.{Window}

-- where all are wanted
pub all_drawn : (window : Window) → window.from ≤ 1 → window.to ≡ None → (lines : ℕ) → drawn_of window lines ≡ lines
all_drawn window from to zero = refl
all_drawn window from to (suc lines) =
    let begun : nat_le window.from (suc lines) ≡ true = le-leb window.from (suc lines) (omega (arith, from)) in
    let open_end : option_map_or (nat_le (suc lines)) window.to true ≡ true =
    ap (λ (o : Option ℕ). option_map_or (nat_le (suc lines)) o true) to in
    rw (begun, open_end) (ap suc (all_drawn window from to lines))

-- with the next line, whose column is kept if the line is drawn
pub one_more : (window : Window) (number next kept new : ℕ) (is : Bool) → next ≡ number + 1
    → is ≡ has_line window next → drawn_of window number ≡ kept → new ≡ cond is (suc kept) kept
    → drawn_of window next ≡ new
one_more window number next kept new is e f g h =
    let s : next ≡ suc number = omega (arith, e) in
    subst (λ (n : ℕ). drawn_of window n ≡ new) (sym s)
    (ap (λ (d : ℕ). cond (has_line window (suc number)) (suc d) d) g
    ∙ ap (λ (b : Bool). cond b (suc kept) kept) (sym (f ∙ ap (has_line window) s))
    ∙ sym h)
