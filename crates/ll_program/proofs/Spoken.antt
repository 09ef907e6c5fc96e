-- The lines of scripts with comments.
use Rattle.std.proofs.Common.{◌≡◌, ◌∙◌, ◌+◌, ◌++◌, ◌∷◌, [], ℕ, Bool, true, false, List, map, refl, sym, ap}
use Rattle.std.proofs.Common.{append_assoc}
use Rattle.std.specs.List.{flat_map}
use Rattle.std.proofs.lemmas.Grind.{flat_map-append}
use Rattle.std.proofs.lemmas.List.{map-append}
use Rattle.ll_program.specs.Comments.{body_of, is_silent, number_in, spoken, with_feed}

-- the first line, and the others
pub one_more : (n : ℕ) (line : List ℕ) (lines : List (List ℕ))
    → spoken n (line ∷ lines) ≡ spoken n (line ∷ []) ++ spoken (n + 1) lines
one_more n line lines = go (is_silent (body_of line)) refl
  where
    go : (b : Bool) → is_silent (body_of line) ≡ b
        → spoken n (line ∷ lines) ≡ spoken n (line ∷ []) ++ spoken (n + 1) lines
    go true e = rw e refl
    go false e = rw e refl

-- what stands after one more line, of the text
pub text_on : (old new all : List ℕ) (n : ℕ) (line : List ℕ) (rest lines : List (List ℕ)) → rest ≡ line ∷ lines
    → new ≡ old ++ flat_map with_feed (spoken n (line ∷ [])) → old ++ flat_map with_feed (spoken n rest) ≡ all
    → new ++ flat_map with_feed (spoken (n + 1) lines) ≡ all
text_on old new all n line rest lines cut more is =
    ap (λ (x : List ℕ). x ++ flat_map with_feed (spoken (n + 1) lines)) more
    ∙ append_assoc old (flat_map with_feed (spoken n (line ∷ []))) (flat_map with_feed (spoken (n + 1) lines))
    ∙ ap (λ (x : List ℕ). old ++ x) (sym (flat_map-append with_feed (spoken n (line ∷ [])) (spoken (n + 1) lines)))
    ∙ ap (λ (x : List (ℕ × List ℕ)). old ++ flat_map with_feed x) (sym (one_more n line lines))
    ∙ ap (λ (x : List (List ℕ)). old ++ flat_map with_feed (spoken n x)) (sym cut) ∙ is

-- and of the numbers
pub numbers_on : (old new all : List ℕ) (n : ℕ) (line : List ℕ) (rest lines : List (List ℕ)) → rest ≡ line ∷ lines
    → new ≡ old ++ map number_in (spoken n (line ∷ [])) → old ++ map number_in (spoken n rest) ≡ all
    → new ++ map number_in (spoken (n + 1) lines) ≡ all
numbers_on old new all n line rest lines cut more is =
    ap (λ (x : List ℕ). x ++ map number_in (spoken (n + 1) lines)) more
    ∙ append_assoc old (map number_in (spoken n (line ∷ []))) (map number_in (spoken (n + 1) lines))
    ∙ ap (λ (x : List ℕ). old ++ x) (sym (map-append number_in (spoken n (line ∷ [])) (spoken (n + 1) lines)))
    ∙ ap (λ (x : List (ℕ × List ℕ)). old ++ map number_in x) (sym (one_more n line lines))
    ∙ ap (λ (x : List (List ℕ)). old ++ map number_in (spoken n x)) (sym cut) ∙ is
