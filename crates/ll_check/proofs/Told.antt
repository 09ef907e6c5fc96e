-- Lines and what they say, one after the other.
use Rattle.std.proofs.Common.{◌≡◌, ℕ, List, [], ◌∷◌, ◌++◌, sym, ap, ◌∙◌, append_assoc}
use Rattle.std.specs.List.{AllZip}

pub each_more : {A B : Type 0} (R : A → B → Type 0) (xs : List A) (ys : List B) (x : A) (y : B) → AllZip R xs ys
    → R x y → AllZip R (xs ++ x ∷ []) (ys ++ y ∷ [])
each_more R [] [] x y told is = (is, tt)
each_more R [] (d ∷ ys) x y told is = absurd told
each_more R (c ∷ xs) [] x y told is = absurd told
each_more R (c ∷ xs) (d ∷ ys) x y told is = (told.0, each_more R xs ys x y told.1 is)

-- one line more is in front of what is left
pub cut_on : (all front rest more : List (List ℕ)) (line : List ℕ) → all ≡ front ++ rest → rest ≡ line ∷ more
    → all ≡ (front ++ line ∷ []) ++ more
cut_on all front rest more line e d =
    e ∙ ap (λ (x : List (List ℕ)). front ++ x) d ∙ sym (append_assoc front (line ∷ []) more)
