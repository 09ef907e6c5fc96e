-- The first of some numbers that passes a test.
use Rattle.std.specs.Prelude.{◌≡◌, ◌≢◌, ℕ, zero, suc, ◌+◌, ◌<◌, ◌≤◌, Bool, true, false, not, ◌&&◌, ◌||◌, ◌==◌, List, []}
use Rattle.std.specs.Prelude.{◌∷◌, ◌++◌, Option, Some, None, cond, find, is_none, refl}
use Rattle.std.specs.List.{range_with_len}
use Rattle.std.specs.Option.{option_map_or}
use Rattle.std.proofs.Common.{ap, arith, eq-eqb, eqb-true, sym, ◌∙◌}
use Rattle.ll_decide.specs.declared.demands.On.{On}
use Rattle.ll_why.specs.Places.{chosen_by, is_chosen}

pub found_passes : (P : ℕ → Bool) (xs : List ℕ) (m : ℕ) → find P xs ≡ Some m → P m ≡ true
found_passes P [] m e = absurd cc
found_passes P (x ∷ xs) m e = of (P x) refl e (found_passes P xs m)
  where
    of : (b : Bool) → P x ≡ b → cond b (Some x) (find P xs) ≡ Some m → (find P xs ≡ Some m → P m ≡ true)
        → P m ≡ true
    of true p e' rest = let same : x ≡ m = cc in ap P (sym same) ∙ p
    of false p e' rest = rest e'

-- what fails at a number, and from the next one on
from_next : (P : ℕ → Bool) (a k : ℕ) → a ≤ k → P a ≡ false → (a + 1 ≤ k → P k ≡ false) → P k ≡ false
from_next P a k low p rest = at (a == k) refl
  where
    at : (c : Bool) → (a == k) ≡ c → P k ≡ false
    at true q = let same : a ≡ k = eqb-true a k q in ap P (sym same) ∙ p
    at false q = let differ : a ≢ k = λ same. absurd (cc (sym (eq-eqb a k same) ∙ q)) in rest (omega arith)

pub found_first : (P : ℕ → Bool) (a n m : ℕ) → find P (range_with_len a n) ≡ Some m → (k : ℕ) → a ≤ k → k < m
    → P k ≡ false
found_first P a zero m e k low less = absurd (cc e)
found_first P a (suc n) m e k low less =
    of (P a) refl e (λ later above. found_first P (a + 1) n m later k above less)
  where
    of : (b : Bool) → P a ≡ b → cond b (Some a) (find P (range_with_len (a + 1) n)) ≡ Some m
        → (find P (range_with_len (a + 1) n) ≡ Some m → a + 1 ≤ k → P k ≡ false) → P k ≡ false
    of true p e' rest = let same : a ≡ m = cc in absurd (omega (arith, same))
    of false p e' rest = from_next P a k low p (rest e')

pub found_within : (P : ℕ → Bool) (a n m : ℕ) → find P (range_with_len a n) ≡ Some m → m < a + n
found_within P a zero m e = absurd (cc e)
found_within P a (suc n) m e = of (P a) refl e (found_within P (a + 1) n m)
  where
    of : (b : Bool) → P a ≡ b → cond b (Some a) (find P (range_with_len (a + 1) n)) ≡ Some m
        → (find P (range_with_len (a + 1) n) ≡ Some m → m < (a + 1) + n) → m < a + suc n
    of true p e' rest = let same : a ≡ m = cc in omega (arith, same)
    of false p e' rest = let less = rest e' in omega (arith, less)

pub none_passes : (P : ℕ → Bool) (a n : ℕ) → find P (range_with_len a n) ≡ None → (k : ℕ) → a ≤ k → k < a + n
    → P k ≡ false
none_passes P a zero e k low high = absurd (omega arith)
none_passes P a (suc n) e k low high =
    of (P a) refl e (λ later above. none_passes P (a + 1) n later k above (omega arith))
  where
    of : (b : Bool) → P a ≡ b → cond b (Some a) (find P (range_with_len (a + 1) n)) ≡ None
        → (find P (range_with_len (a + 1) n) ≡ None → a + 1 ≤ k → P k ≡ false) → P k ≡ false
    of true p e' rest = absurd (cc e')
    of false p e' rest = from_next P a k low p (rest e')

-- ---- with one number more

range_more : (a n j : ℕ) → a + n ≡ j → range_with_len a (suc n) ≡ range_with_len a n ++ j ∷ []
range_more a zero j e = let same : a ≡ j = omega arith in ap (λ k. k ∷ []) same
range_more a (suc n) j e = ap (λ l. a ∷ l) (range_more (a + 1) n j (omega arith))

abbrev behind : Option ℕ → Bool → ℕ → Option ℕ
behind (Some k) b x = Some k
behind None b x = cond b (Some x) None

find_more : (P : ℕ → Bool) (xs : List ℕ) (x : ℕ) → find P (xs ++ x ∷ []) ≡ behind (find P xs) (P x) x
find_more P [] x = refl
find_more P (y ∷ xs) x = of (P y) (find_more P xs x)
  where
    of : (b : Bool) → find P (xs ++ x ∷ []) ≡ behind (find P xs) (P x) x
        → cond b (Some y) (find P (xs ++ x ∷ [])) ≡ behind (cond b (Some y) (find P xs)) (P x) x
    of true rest = refl
    of false rest = rest

rest_after : (o : Option ℕ) (b : Bool) (x : ℕ)
    → (is_none o && not (is_none o && b)) ≡ is_none (behind o b x)
rest_after (Some k) b x = refl
rest_after None true x = refl
rest_after None false x = refl

chosen_after : (o : Option ℕ) (b : Bool) (x : ℕ) (on : On)
    → (option_map_or (λ n. chosen_by n on) o false || (chosen_by x on && (is_none o && b)))
    ≡ option_map_or (λ n. chosen_by n on) (behind o b x) false
chosen_after (Some k) b x on = of (chosen_by k on) (chosen_by x on)
  where
    of : (c d : Bool) → (c || (d && false)) ≡ c
    of true d = refl
    of false true = refl
    of false false = refl
chosen_after None true x on = of (chosen_by x on)
  where
    of : (d : Bool) → (false || (d && true)) ≡ d
    of true = refl
    of false = refl
chosen_after None false x on = of (chosen_by x on)
  where
    of : (d : Bool) → (false || (d && false)) ≡ false
    of true = refl
    of false = refl

module _ (P : ℕ → Bool) (n : ℕ) where
  abbrev so_far : List ℕ
  so_far = range_with_len 0 n

  more : find P (range_with_len 0 (n + 1)) ≡ behind (find P so_far) (P n) n
  more = let on : n + 1 ≡ suc n = omega arith in
      ap (λ k. find P (range_with_len 0 k)) on ∙ ap (find P) (range_more 0 n n (omega arith)) ∙ find_more P so_far n

  pub rest_more : (is_none (find P so_far) && not (is_none (find P so_far) && P n))
      ≡ is_none (find P (range_with_len 0 (n + 1)))
  rest_more = rest_after (find P so_far) (P n) n ∙ ap is_none (sym more)

  pub chosen_more : (on : On) → (is_chosen so_far P on || (chosen_by n on && (is_none (find P so_far) && P n)))
      ≡ is_chosen (range_with_len 0 (n + 1)) P on
  chosen_more on = chosen_after (find P so_far) (P n) n on
      ∙ ap (λ o. option_map_or (λ k. chosen_by k on) o false) (sym more)
