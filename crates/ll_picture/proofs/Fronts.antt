-- Texts that begin as others do.
use Rattle.std.proofs.Common.{◌≡◌, ◌∙◌, ℕ, zero, suc, List, ◌++◌, refl, ap, append_assoc}
use Rattle.ll_picture.specs.Pictures.{HasMarks, IsFrontOf, mark}

pub on : (a b c : List ℕ) → IsFrontOf a b → IsFrontOf b c → IsFrontOf a c
on a b c p q = (p.0 ++ q.0, q.1 ∙ ap (λ (w : List ℕ). w ++ q.0) p.1 ∙ append_assoc a p.0 q.0)

-- without what comes last in the front
pub less : (a m b : List ℕ) → IsFrontOf (a ++ m) b → IsFrontOf a b
less a m b p = on a (a ++ m) b (m, refl) p

-- three pieces come behind a text, and then a rest
pub pieces_on : (a b c d e x y z r : List ℕ) → b ≡ a ++ x → c ≡ b ++ y → d ≡ c ++ z → e ≡ d ++ r
    → IsFrontOf (a ++ (x ++ y ++ z)) e
pieces_on a b c d e x y z r p q s t =
    let two : c ≡ a ++ (x ++ y) = q ∙ ap (λ (w : List ℕ). w ++ y) p ∙ append_assoc a x y in
    let three : d ≡ a ++ (x ++ y ++ z) = s ∙ ap (λ (w : List ℕ). w ++ z) two ∙ append_assoc a (x ++ y) z in
    (r, t ∙ ap (λ (w : List ℕ). w ++ r) three)

pub marks_on : (n : ℕ) (a b : List ℕ) → HasMarks n a → IsFrontOf a b → HasMarks n b
marks_on zero a b h f = tt
marks_on (suc n) a b h f = (h.0, on (h.0 ++ mark) a b h.1 f, h.2)

-- a text with a mark more
pub one_more : (n : ℕ) (a mid b : List ℕ) → HasMarks n a → IsFrontOf a mid → IsFrontOf (mid ++ mark) b
    → HasMarks (suc n) b
one_more n a mid b h f g = (mid, g, marks_on n a mid h f)
