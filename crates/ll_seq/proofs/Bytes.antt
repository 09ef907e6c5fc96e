-- Bytes put into a file, beyond its end too.
use Rattle.std.specs.Prelude.{◌≡◌, ℕ, zero, suc, ◌+◌, ◌-◌, ◌≤◌, List, [], ◌∷◌, ◌++◌, length, take, drop, replicate}
use Rattle.std.specs.Prelude.{refl}
use Rattle.std.proofs.Common.{ap, sym, ◌∙◌, append_assoc, arith}
use Rattle.std.proofs.lemmas.List.{take-replicate, drop-replicate}
use Rattle.ll_seq.specs.Effects.{overwritten}

-- zeros behind what is taken don't count
padded : (n m : ℕ) (xs : List ℕ) → n - length xs ≤ m
    → take n (xs ++ replicate m 0) ≡ take n (xs ++ replicate (n - length xs) 0)
padded n m [] le = let all : n ≤ m = omega arith in let same : n ≤ n - 0 = omega arith in
    take-replicate n m 0 all ∙ sym (take-replicate n (n - 0) 0 same)
padded zero m (x ∷ xs) le = refl
padded (suc n) m (x ∷ xs) le =
    let less : n - length xs ≡ suc n - suc (length xs) = omega arith in
    ap (λ ys. x ∷ ys) (padded n m xs (omega arith) ∙ ap (λ k. take n (xs ++ replicate k 0)) less)

no_more : (xs : List ℕ) (k : ℕ) → k ≡ 0 → xs ++ replicate k 0 ≡ xs
no_more [] k e = ap (λ j. replicate j 0) e
no_more (x ∷ xs) k e = ap (λ ys. x ∷ ys) (no_more xs k e)

behind : (n k : ℕ) (xs : List ℕ) → k ≡ n - length xs → drop n (xs ++ replicate k 0) ≡ drop n xs
behind zero k xs e = no_more xs k (omega arith)
behind (suc n) k [] e = drop-replicate (suc n) k 0
    ∙ ap (λ j. replicate j 0) (let none : k - suc n ≡ 0 = omega arith in none)
behind (suc n) k (x ∷ xs) e = behind n k xs (omega arith)

pub overwritten_is : (old : List ℕ) (offset : ℕ) (bytes grown after : List ℕ)
    → grown ≡ old ++ replicate (offset + length bytes - length old) 0
    → after ≡ take offset grown ++ (bytes ++ drop (offset + length bytes) grown) → after ≡ overwritten old offset bytes
overwritten_is old offset bytes grown after g is =
    is ∙ ap (λ xs. take offset xs ++ (bytes ++ drop (offset + length bytes) xs)) g
    ∙ (λ i. padded offset (offset + length bytes - length old) old (omega arith) i
    ++ (bytes ++ behind (offset + length bytes) (offset + length bytes - length old) old refl i))
    ∙ sym (append_assoc (take offset (old ++ replicate (offset - length old) 0)) bytes
    (drop (offset + length bytes) old))
