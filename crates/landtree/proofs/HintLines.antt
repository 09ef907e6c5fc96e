-- Lines of printed text are told.
use Rattle.std.proofs.Common.{◌≡◌, ℕ, Bool, true, false, List, [], ◌∷◌, ◌++◌, refl}
use Rattle.std.specs.Prelude.{◌||◌, ◌==◌}
use Rattle.std.specs.List.{All}
use Rattle.std.proofs.lemmas.List.Elements.{All-append, All-nil, All-cons, All-head, All-tail}
use Rattle.ll_wire.specs.Terminal.{IsPrinted, is_printed}
use Rattle.landtree.specs.Told.{IsTold}

either_true : (p q : Bool) → p ≡ true → p || q ≡ true
either_true true q is = refl
either_true false q is = absurd cc

told_text : (text : List ℕ) → All IsPrinted text → All IsTold text
told_text [] all = All-nil IsTold
told_text (b ∷ text) all =
    All-cons IsTold b text (either_true (is_printed b) (b == 10) (All-head IsPrinted b text all))
    (told_text text (All-tail IsPrinted b text all))

pub told_line : (text line : List ℕ) → All IsPrinted text → line ≡ (32 ∷ 32 ∷ []) ++ text ++ (10 ∷ [])
    → All IsTold line
told_line text line all is = rw is (All-append IsTold ((32 ∷ 32 ∷ []) ++ text) (10 ∷ [])
    (All-append IsTold (32 ∷ 32 ∷ []) text (told_text (32 ∷ 32 ∷ []) (All-cons IsPrinted 32 (32 ∷ []) refl
    (All-cons IsPrinted 32 [] refl (All-nil IsPrinted)))) (told_text text all))
    (All-cons IsTold 10 [] refl (All-nil IsTold)))

pub told_more : (text line : List ℕ) → All IsTold text → All IsTold line → All IsTold (text ++ line)
told_more text line some more = All-append IsTold text line some more
