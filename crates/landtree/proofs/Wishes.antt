-- Words as texts, for the wishes among them.
use Rattle.std.proofs.Common.{◌≡◌, ◌||◌, ℕ, List, [], ◌∷◌, ap, map, refl, Bool, Bor}
use Rattle.std.specs.List.{list_any}
use Rattle.landtree.specs.Wish.{asks, declines}

any_told : (test : List ℕ → Bool) (words : List (Bor (List ℕ)))
    → list_any (λ (word : Bor (List ℕ)). test word.now) words
    ≡ list_any test (map (λ (word : Bor (List ℕ)). word.now) words)
any_told test [] = refl
any_told test (word ∷ words) = ap (λ (b : Bool). test word.now || b) (any_told test words)

pub asks_told : (words : List (Bor (List ℕ))) → list_any (λ (word : Bor (List ℕ)). asks word.now) words
    ≡ list_any asks (map (λ (word : Bor (List ℕ)). word.now) words)
asks_told = any_told asks

pub declines_told : (words : List (Bor (List ℕ))) → list_any (λ (word : Bor (List ℕ)). declines word.now) words
    ≡ list_any declines (map (λ (word : Bor (List ℕ)). word.now) words)
declines_told = any_told declines
