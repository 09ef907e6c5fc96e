-- The entry of a number, from 1, and those before it.
use Rattle.std.proofs.Common.{◌≡◌, ℕ, zero, suc, ◌+◌, ◌-◌, ◌≤◌, List, [], ◌∷◌, ◌++◌, length, take, get_or, refl}
use Rattle.std.proofs.Common.{Some, ap, sym, subst, ◌∙◌, arith, inl, inr}
use Rattle.std.specs.Prelude.{slice_get}
use Rattle.std.proofs.lemmas.List.{length-take, take_more}
use Rattle.std.proofs.lemmas.Option.{slice_get_read}
use Rattle.ll_seq.specs.declared.reply.Entry.{Entry}
use Rattle.ll_seq.specs.History.{IsLegal, MayStand, state_after, after}
use Rattle.ll_seq.specs.State.{State}
use Rattle.ll_seq.proofs.Histories.{legal_append, legal_late}
use Rattle.ll_audit.specs.Audit.{IsFirstIllegal}
use Rattle.ll_why.specs.Entries.{IsToldOf}

-- what is legal is so at its front
legal_front : (s : State) (es : List Entry) (k n : ℕ) → n ≤ k → IsLegal s (take k es) → IsLegal s (take n es)
legal_front s [] k zero le l = tt
legal_front s [] k (suc n) le l = tt
legal_front s (e ∷ es) k zero le l = tt
legal_front s (e ∷ es) zero (suc n) le l = absurd (omega (arith, le))
legal_front s (e ∷ es) (suc k) (suc n) le l = (l.0, legal_front (after s e) es k n (omega (arith, le)) l.1)

take_within : (es : List Entry) (k n : ℕ) → n ≤ k → take n (take k es) ≡ take n es
take_within [] zero zero le = refl
take_within [] zero (suc n) le = refl
take_within [] (suc k) zero le = refl
take_within [] (suc k) (suc n) le = refl
take_within (e ∷ es) zero zero le = refl
take_within (e ∷ es) zero (suc n) le = absurd (omega (arith, le))
take_within (e ∷ es) (suc k) zero le = refl
take_within (e ∷ es) (suc k) (suc n) le = ap (λ (l : List Entry). e ∷ l) (take_within es k n (omega (arith, le)))

module _ (s : State) (es : List Entry) (wanted : ℕ) where
  pub told_of_legal : 1 ≤ wanted → IsLegal s (take wanted es) → IsToldOf s es wanted wanted
  told_of_legal first legal = record {
    first = first;
    last = omega arith;
    legal = legal_front s es wanted (wanted - 1) (omega arith) legal;
    one = inl refl;
  }

  module _ (number : ℕ) (bad : IsFirstIllegal s (take wanted es) number) where
    within : number ≤ wanted
    within = let last = bad.last in let len = length-take wanted es in omega (arith, last, len)

    pub not_legal : IsLegal s (take number es) → ⊥
    not_legal legal = bad.illegal (subst (IsLegal s) (sym (take_within es wanted number within)) legal)

    pub told_of_first : IsToldOf s es wanted number
    told_of_first = record {
      first = bad.first;
      last = within;
      legal = subst (IsLegal s) (take_within es wanted (number - 1) (omega (arith, within))) bad.legal;
      one = inr not_legal;
    }

module _ (s : State) (es : List Entry) (number : ℕ) (e : Entry) (first : 1 ≤ number) (last : number ≤ length es)
    (at : e ≡ get_or es (number - 1) e) where
  one_more : take number es ≡ take (number - 1) es ++ e ∷ []
  one_more =
      let same : number ≡ number - 1 + 1 = omega (arith, first) in
      ap (λ (k : ℕ). take k es) same ∙ take_more es (number - 1) e (omega (arith, first, last))
      ∙ ap (λ (x : Entry). take (number - 1) es ++ x ∷ []) (sym at)

  pub stands : IsLegal s (take number es) → MayStand (state_after s (take (number - 1) es)) e
  stands legal = (legal_late s (take (number - 1) es) (e ∷ []) (subst (IsLegal s) one_more legal)).0

  pub stands_not : IsLegal s (take (number - 1) es) → (IsLegal s (take number es) → ⊥)
      → MayStand (state_after s (take (number - 1) es)) e → ⊥
  stands_not legal not may =
      not (subst (IsLegal s) (sym one_more) (legal_append s (take (number - 1) es) e legal may))

  pub here : slice_get es (number - 1) ≡ Some e
  here = slice_get_read es (length es) (number - 1) e refl (omega (arith, first, last)) at
