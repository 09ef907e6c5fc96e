-- What stands behind a front, or in front of a back.
use Rattle.std.proofs.Common.{◌≡◌, ℕ, true, false, List, length, take, drop, Option}
use Rattle.std.proofs.Common.{Some, None, true≢false, sym}
use Rattle.std.proofs.Common.{ap, ◌∙◌, Bor}
use Rattle.std.proofs.Common.{ap₂, ◌++◌, ◌+◌, ◌-◌, arith}
use Rattle.std.specs.Option.{MatchOption, IfSome, IfNone}
use Rattle.std.proofs.lemmas.List.{length-append, take-append-drop}
use Rattle.std.proofs.lemmas.Slice.Eq.{bytes_eq-Decides}
use Rattle.std.proofs.Math.Seq.{take-append_seam, drop-append_seam}
use Rattle.std.specs.Str.{bytes_eq}

-- ---- fronts and backs, stripped

module _ (Q : Bor (List ℕ) → Type 0) (r : Option (Bor (List ℕ))) (front text : List ℕ)
    (cases : MatchOption r (bytes_eq (take (length front) text) front ≡ false)
    (λ x. (bytes_eq (take (length front) text) front ≡ true) × (x.now ≡ drop (length front) text) × Q x)) where
  pub front_found : IfSome r (λ rest. text ≡ front ++ rest.now)
  front_found = go r cases
    where
      go : (r : Option (Bor (List ℕ))) → MatchOption r (bytes_eq (take (length front) text) front ≡ false)
          (λ x. (bytes_eq (take (length front) text) front ≡ true) × (x.now ≡ drop (length front) text) × Q x)
          → IfSome r (λ rest. text ≡ front ++ rest.now)
      go None h = tt
      go (Some x) h = sym (take-append-drop (length front) text)
          ∙ ap₂ (λ (a b : List ℕ). a ++ b) ((bytes_eq-Decides _ _).0 h.0) (sym h.1)

  pub front_none : IfNone r ((rest : List ℕ) → text ≡ front ++ rest → ⊥)
  front_none = go r cases
    where
      go : (r : Option (Bor (List ℕ))) → MatchOption r (bytes_eq (take (length front) text) front ≡ false)
          (λ x. (bytes_eq (take (length front) text) front ≡ true) × (x.now ≡ drop (length front) text) × Q x)
          → IfNone r ((rest : List ℕ) → text ≡ front ++ rest → ⊥)
      go None h = λ rest e.
          true≢false (sym ((bytes_eq-Decides _ _).1 (ap (take (length front)) e ∙ take-append_seam front rest)) ∙ h)
      go (Some x) h = tt

module _ (Q : Bor (List ℕ) → Type 0) (r : Option (Bor (List ℕ))) (back text : List ℕ)
    (cases : MatchOption r (bytes_eq (drop (length text - length back) text) back ≡ false)
    (λ x. (bytes_eq (drop (length text - length back) text) back ≡ true)
    × (x.now ≡ take (length text - length back) text) × Q x)) where
  pub back_found : IfSome r (λ rest. text ≡ rest.now ++ back)
  back_found = go r cases
    where
      go : (r : Option (Bor (List ℕ)))
          → MatchOption r (bytes_eq (drop (length text - length back) text) back ≡ false)
          (λ x. (bytes_eq (drop (length text - length back) text) back ≡ true)
          × (x.now ≡ take (length text - length back) text) × Q x)
          → IfSome r (λ rest. text ≡ rest.now ++ back)
      go None h = tt
      go (Some x) h = sym (take-append-drop (length text - length back) text)
          ∙ ap₂ (λ (a b : List ℕ). a ++ b) (sym h.1) ((bytes_eq-Decides _ _).0 h.0)

  pub back_none : IfNone r ((rest : List ℕ) → text ≡ rest ++ back → ⊥)
  back_none = go r cases
    where
      at_end : (rest : List ℕ) → text ≡ rest ++ back → drop (length text - length back) text ≡ back
      at_end rest e =
          let long : length text ≡ length rest + length back = ap length e ∙ length-append rest back in
          let place : length text - length back ≡ length rest = omega (arith, long) in
          ap₂ drop place e ∙ drop-append_seam rest back

      go : (r : Option (Bor (List ℕ)))
          → MatchOption r (bytes_eq (drop (length text - length back) text) back ≡ false)
          (λ x. (bytes_eq (drop (length text - length back) text) back ≡ true)
          × (x.now ≡ take (length text - length back) text) × Q x)
          → IfNone r ((rest : List ℕ) → text ≡ rest ++ back → ⊥)
      go None h = λ rest e. true≢false (sym ((bytes_eq-Decides _ _).1 (at_end rest e)) ∙ h)
      go (Some x) h = tt
