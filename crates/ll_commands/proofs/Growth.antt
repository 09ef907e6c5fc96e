-- Elements of lists, and texts that may be there.
use Rattle.std.proofs.Common.{◌≡◌, ℕ, zero, suc, ◌<◌, List, [], ◌∷◌, length, get_or, refl, arith, Option, None, Some}
use Rattle.std.specs.Prelude.{option_map, unwrap_or}
use Rattle.std.specs.Borrow.{Bor}
use Rattle.std.specs.List.{AllByRecursion}

pub each_at : {A : Type 0} (P : A → Type 0) (xs : List A) (i : ℕ) (d : A) → i < length xs → AllByRecursion P xs
    → P (get_or xs i d)
each_at P [] i d lt all = absurd (omega arith)
each_at P (x ∷ xs) zero d lt all = all.0
each_at P (x ∷ xs) (suc i) d lt all = each_at P xs i d (omega arith) all.1

-- the text that is there, or another one
pub told_or : (o : Option (Bor (List ℕ))) (other : Bor (List ℕ))
    → (unwrap_or o other).now ≡ unwrap_or (option_map (λ t. t.now) o) other.now
told_or None other = refl
told_or (Some told) other = refl
