-- Clients by their places in the session, which begins after so many others.
use Rattle.std.proofs.Common.{◌≡◌, ℕ, zero, suc, ◌+◌, ◌-◌, ◌<◌, ◌≤◌, length, drop, None, Some, refl, ap, ◌∙◌, arith}
use Rattle.std.specs.Prelude.{slice_get}
use Rattle.ll_seq.specs.Stages.{numbers_from}

pub at : (k count i : ℕ) → i < count → slice_get (numbers_from k count) i ≡ Some (k + i)
unfolding numbers_from
at k zero i less = absurd (omega arith)
at k (suc count) zero less = let same : k ≡ k + 0 = omega arith in ap Some same
at k (suc count) (suc i) less = let same : suc k + i ≡ k + suc i = omega arith in
    at (suc k) count i (omega arith) ∙ ap Some same

beyond : (k count i : ℕ) → count ≤ i → slice_get (numbers_from k count) i ≡ None
unfolding numbers_from
beyond k zero i more = refl
beyond k (suc count) zero more = absurd (omega arith)
beyond k (suc count) (suc i) more = beyond (suc k) count i (omega arith)

-- the client of a place has the number that is its place after those before
pub in_place : (before count n : ℕ) → 1 ≤ n → n ≤ count
    → slice_get (numbers_from (before + 1) count) (n - 1) ≡ Some (before + n)
in_place before count n first last = let same : before + 1 + (n - 1) ≡ before + n = omega arith in
    at (before + 1) count (n - 1) (omega arith) ∙ ap Some same

pub no_place : (before count n : ℕ) → count < n → slice_get (numbers_from (before + 1) count) (n - 1) ≡ None
no_place before count n more = beyond (before + 1) count (n - 1) (omega arith)

pub how_many : (k count : ℕ) → length (numbers_from k count) ≡ count
unfolding numbers_from
how_many k zero = refl
how_many k (suc count) = ap suc (how_many (suc k) count)

-- what is left after the first n of them
pub after_first : (n k count : ℕ) → n ≤ count → drop n (numbers_from k count) ≡ numbers_from (k + n) (count - n)
unfolding numbers_from
after_first zero k count less =
    let same : k ≡ k + 0 = omega arith in
    let all : count ≡ count - 0 = omega arith in
    ap (λ j. numbers_from j count) same ∙ ap (numbers_from (k + 0)) all
after_first (suc n) k zero less = absurd (omega arith)
after_first (suc n) k (suc count) less = let same : suc k + n ≡ k + suc n = omega arith in
    let left : count - n ≡ suc count - suc n = omega arith in
    after_first n (suc k) count (omega arith) ∙ ap (λ j. numbers_from j (count - n)) same
    ∙ ap (numbers_from (k + suc n)) left
