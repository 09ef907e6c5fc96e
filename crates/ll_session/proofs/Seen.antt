-- The last entry that one of the clients knows of.
use Rattle.std.specs.Prelude.{◌≡◌, ℕ, zero, suc, ◌≤◌, List, [], ◌∷◌, ◌++◌, length, Some, slice_get}
use Rattle.std.specs.Prelude.{slice_set}
use Rattle.std.specs.Prelude.{refl}
use Rattle.std.specs.List.{AllByRecursion}
use Rattle.std.proofs.Common.{sym, ap, ◌∙◌, arith}
use Rattle.ll_client.specs.Closed.{numbers_of}
use Rattle.ll_client.specs.Entries.{Knows}
use Rattle.ll_session.specs.Talk.{seen_by}

pub seen_low : (ks : List Knows) (i : ℕ) (k : Knows) → slice_get ks i ≡ Some k → k.seen ≤ seen_by ks
seen_low [] i k at = absurd (cc at)
seen_low (j ∷ ks) zero k at = let same : j ≡ k = cc at in
    let seen : j.seen ≡ k.seen = ap (λ (x : Knows). x.seen) same in
    omega arith
seen_low (j ∷ ks) (suc i) k at = let rest = seen_low ks i k at in omega arith

-- one of them has come on
pub seen_set : (ks : List Knows) (i : ℕ) (k now : Knows) → slice_get ks i ≡ Some k → seen_by ks ≤ now.seen
    → seen_by (slice_set ks i now) ≡ now.seen
seen_set [] i k now at more = absurd (cc at)
seen_set (j ∷ ks) zero k now at more = omega arith
seen_set (j ∷ ks) (suc i) k now at more = let rest = seen_set ks i k now at (omega arith) in omega arith

-- one more has come
pub seen_push : (ks : List Knows) (now : Knows) → seen_by ks ≤ now.seen → seen_by (ks ++ now ∷ []) ≡ now.seen
seen_push [] now more = omega arith
seen_push (j ∷ ks) now more = let rest = seen_push ks now (omega arith) in omega arith

pub seen_all : (ks : List Knows) (n : ℕ) → AllByRecursion (λ (k : Knows). k.seen ≤ n) ks → seen_by ks ≤ n
seen_all [] n all = omega arith
seen_all (k ∷ ks) n all = let rest = seen_all ks n all.1 in let first = all.0 in omega arith

-- ---- their numbers

pub numbers_set : (ks : List Knows) (i : ℕ) (k now : Knows) → slice_get ks i ≡ Some k → now.number ≡ k.number
    → numbers_of (slice_set ks i now) ≡ numbers_of ks
numbers_set [] i k now at same = refl
numbers_set (j ∷ ks) zero k now at same =
    let here : j ≡ k = cc at in
    ap (λ n. n ∷ numbers_of ks) (same ∙ ap (λ (x : Knows). x.number) (sym here))
numbers_set (j ∷ ks) (suc i) k now at same = ap (λ ns. j.number ∷ ns) (numbers_set ks i k now at same)

pub numbers_push : (ks : List Knows) (k : Knows) → numbers_of (ks ++ k ∷ []) ≡ numbers_of ks ++ k.number ∷ []
numbers_push [] k = refl
numbers_push (j ∷ ks) k = ap (λ ns. j.number ∷ ns) (numbers_push ks k)

pub count_numbers : (ks : List Knows) → length (numbers_of ks) ≡ length ks
count_numbers [] = refl
count_numbers (k ∷ ks) = ap suc (count_numbers ks)
