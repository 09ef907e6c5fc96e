-- A line without its line feed.
use Rattle.std.proofs.Common.{◌≡◌, ◌≢◌, ℕ, List, [], ◌∷◌, ◌++◌, length, refl, sym, ap, ◌∙◌, arith}
use Rattle.std.proofs.lemmas.Bool.{ne_eqb}
use Rattle.ll_program.specs.Comments.{body_of}

pub ended_body : (body : List ℕ) → body_of (body ++ 10 ∷ []) ≡ body
ended_body [] = refl
ended_body (b ∷ []) = refl
ended_body (b ∷ c ∷ body) = ap (λ (x : List ℕ). b ∷ x) (ended_body (c ∷ body))

pub open_body : (body : List ℕ) (last : ℕ) → last ≢ 10 → body_of (body ++ last ∷ []) ≡ body ++ last ∷ []
open_body [] last other = rw (ne_eqb last 10 other) refl
open_body (b ∷ []) last other = ap (λ (x : List ℕ). b ∷ x) (open_body [] last other)
open_body (b ∷ c ∷ body) last other = ap (λ (x : List ℕ). b ∷ x) (open_body (c ∷ body) last other)

pub if_ended : (line body : List ℕ) (last : ℕ) → line ≡ body ++ last ∷ [] → last ≡ 10 → body ≡ body_of line
if_ended line body last e is = sym (ap body_of (e ∙ ap (λ (b : ℕ). body ++ b ∷ []) is) ∙ ended_body body)

pub if_open : (line body : List ℕ) (last : ℕ) → line ≡ body ++ last ∷ [] → last ≢ 10 → line ≡ body_of line
if_open line body last e other = e ∙ sym (open_body body last other) ∙ ap body_of (sym e)

pub if_empty : (line : List ℕ) → length line ≡ 0 → line ≡ body_of line
if_empty [] e = refl
if_empty (b ∷ line) e = absurd (omega (arith, e))
