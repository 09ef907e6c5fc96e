-- What words mean, one after another.
use Rattle.std.proofs.Common.{◌≡◌, ◌<◌, ◌+◌, ◌^◌, ℕ, List, ◌∷◌, length, get_or, drop, ap, sym, ◌∙◌, subst}
use Rattle.std.specs.Prelude.{bit_or}
use Rattle.std.proofs.lemmas.List.{drop_more}
use Rattle.ll_policy.specs.MeantRights.{IsMeant, Mean}

-- what the words from one on mean with this set is what all mean
abbrev pub IsSoFar : List (List ℕ) → ℕ → ℕ → Type 0
IsSoFar words count set = (all : ℕ) → Mean set (drop count words) all → Mean 0 words all

pub means_more : (words : List (List ℕ)) (count set : ℕ) (word : List ℕ) (right with : ℕ) → IsSoFar words count set
    → count < length words → word ≡ get_or words count word → IsMeant word right → with ≡ bit_or set (2 ^ right)
    → IsSoFar words (count + 1) with
means_more words count set word right with so_far within at meant is all rest =
    let next : drop count words ≡ word ∷ drop (count + 1) words =
    drop_more words count word within ∙ ap (λ w. w ∷ drop (count + 1) words) (sym at) in
    so_far all (subst (λ ws. Mean set ws all) (sym next)
    (right, meant, subst (λ s. Mean s (drop (count + 1) words) all) is rest))
