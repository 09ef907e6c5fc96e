-- A domain denies nothing exactly if each of its layers alone denies nothing.
use Rattle.std.specs.Prelude.{◌≡◌, ℕ, ◌+◌, Bool, true, false, ◌||◌, List, [], ◌∷◌, ◌++◌, refl}
use Rattle.std.specs.List.{list_any, flat_map, enumerate_from}
use Rattle.std.proofs.Common.{sym, ap, ◌∙◌}
use Rattle.std.proofs.lemmas.List.Folds.{list_any-append}
use Rattle.ll_rights.specs.Right.{refer, all_rights}
use Rattle.ll_decide.specs.declared.denial.Cause.{Cause}
use Rattle.ll_decide.specs.declared.denial.Cause.TheVariants.{EACCES, EXDEV}
use Rattle.ll_decide.specs.declared.denial.Place.{Place}
use Rattle.ll_decide.specs.Verdict.{Ask, Move, all_denials, denials, gains, lacks, places, rights_without_refer, when}
use Rattle.ll_seq.specs.Call.{has_any}

pub any_append : {A : Type 0} (xs ys : List A) → has_any (xs ++ ys) ≡ (has_any xs || has_any ys)
any_append [] ys = refl
any_append (x ∷ xs) ys = refl

any_when : {A : Type 0} (b : Bool) (x : A) → has_any (when b (x ∷ [])) ≡ b
any_when true x = refl
any_when false x = refl

pub none_any : {A : Type 0} (xs : List A) → has_any xs ≡ false → xs ≡ []
none_any [] e = refl
none_any (x ∷ xs) e = absurd cc

any_flat : {X A : Type 0} (f : X → List A) (g : X → Bool) → ((x : X) → has_any (f x) ≡ g x) → (xs : List X)
    → has_any (flat_map f xs) ≡ list_any g xs
any_flat f g same [] = refl
any_flat f g same (x ∷ xs) = any_append (f x) (flat_map f xs) ∙ (λ i. same x i || any_flat f g same xs i)

-- what a layer is denied by doesn't depend on its number
any_numbered : {A : Type 0} (g : A → Bool) (n : ℕ) (layers : List A)
    → list_any (λ (l : ℕ × A). g l.1) (enumerate_from n layers) ≡ list_any g layers
any_numbered g n [] = refl
any_numbered g n (l ∷ ls) = ap (λ b. g l || b) (any_numbered g (n + 1) ls)

module _ {A : Type 0} (cause : Cause) (rights : List ℕ) (test : A → ℕ → Place → Bool) where
  abbrev fails : A → Bool
  fails layer = list_any (λ right. list_any (λ place. test layer right place) places) rights

  any_denials : (layers : List A) → has_any (denials cause layers rights places test) ≡ list_any fails layers
  any_denials layers =
      any_flat _ (λ (l : ℕ × A). fails l.1)
      (λ l. any_flat _ (λ right. list_any (λ place. test l.1 right place) places)
      (λ right. any_flat _ (λ place. test l.1 right place) (λ place. any_when (test l.1 right place)
      (record { cause = cause; layer = l.0; right = right; place = place })) places) rights)
      (enumerate_from 1 layers)
      ∙ any_numbered fails 1 layers

module _ {A P : Type 0} (grants : A → P → ℕ → Bool) (asks : List (Ask P)) (moves : List (Move P)) where
  abbrev pub denies : A → Bool
  denies layer = (fails EACCES rights_without_refer (lacks grants asks) layer
      || fails EXDEV (refer ∷ []) (lacks grants asks) layer) || fails EXDEV all_rights (gains grants moves) layer

  three : (a b c : A → Bool) (ls : List A)
      → ((list_any a ls || list_any b ls) || list_any c ls) ≡ list_any (λ l. (a l || b l) || c l) ls
  three a b c [] = refl
  three a b c (l ∷ ls) =
      turn (a l) (b l) (c l) (list_any a ls) (list_any b ls) (list_any c ls)
      ∙ ap (λ x. ((a l || b l) || c l) || x) (three a b c ls)
    where
      turn : (p q r x y z : Bool) → (((p || x) || (q || y)) || (r || z)) ≡ (((p || q) || r) || ((x || y) || z))
      turn true q r x y z = refl
      turn false true r true y z = refl
      turn false true r false y z = refl
      turn false false true true y z = refl
      turn false false true false true z = refl
      turn false false true false false z = refl
      turn false false false x y z = refl

  pub any_denies : (layers : List A) → has_any (all_denials grants layers asks moves) ≡ list_any denies layers
  any_denies layers =
      any_append (denials EACCES layers rights_without_refer places (lacks grants asks)
      ++ denials EXDEV layers (refer ∷ []) places (lacks grants asks)) _
      ∙ ap (λ b. b || has_any (denials EXDEV layers all_rights places (gains grants moves)))
      (any_append (denials EACCES layers rights_without_refer places (lacks grants asks)) _)
      ∙ (λ i. (any_denials EACCES rights_without_refer (lacks grants asks) layers i
      || any_denials EXDEV (refer ∷ []) (lacks grants asks) layers i)
      || any_denials EXDEV all_rights (gains grants moves) layers i)
      ∙ three _ _ _ layers

  -- one layer more denies what it denies alone
  pub any_more : (front : List A) (layer : A) (back : List A)
      → has_any (all_denials grants (front ++ layer ∷ back) asks moves)
      ≡ (has_any (all_denials grants (front ++ back) asks moves)
      || has_any (all_denials grants (layer ∷ []) asks moves))
  any_more front layer back =
      any_denies (front ++ layer ∷ back) ∙ list_any-append denies front (layer ∷ back)
      ∙ turn (list_any denies front) (denies layer) (list_any denies back)
      ∙ ap (λ b. b || (denies layer || false)) (sym (list_any-append denies front back))
      ∙ (λ i. sym (any_denies (front ++ back)) i || sym (any_denies (layer ∷ [])) i)
    where
      turn : (p q r : Bool) → (p || (q || r)) ≡ ((p || r) || (q || false))
      turn true q r = refl
      turn false true true = refl
      turn false true false = refl
      turn false false true = refl
      turn false false false = refl

  -- where the others deny nothing, all deny nothing exactly if it alone denies nothing
  pub more_allow : (front : List A) (layer : A) (back : List A) → all_denials grants (front ++ back) asks moves ≡ []
      → all_denials grants (layer ∷ []) asks moves ≡ [] → all_denials grants (front ++ layer ∷ back) asks moves ≡ []
  more_allow front layer back others one =
      none_any _ (any_more front layer back ∙ (λ i. has_any (others i) || has_any (one i)))

  pub one_allows : (front : List A) (layer : A) (back : List A)
      → all_denials grants (front ++ layer ∷ back) asks moves ≡ [] → all_denials grants (layer ∷ []) asks moves ≡ []
  one_allows front layer back all =
      none_any _ (right (has_any (all_denials grants (front ++ back) asks moves)) _
      (sym (any_more front layer back) ∙ ap has_any all))
    where
      right : (a b : Bool) → (a || b) ≡ false → b ≡ false
      right true b e = absurd cc
      right false b e = e
