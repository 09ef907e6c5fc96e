-- The tokens that stand first in a text, and what is left behind them.
use Rattle.std.proofs.Common.{◌≡◌, ◌≢◌, ℕ, ◌<◌, false, List, [], ◌∷◌, ◌++◌, length, take, drop, get_or, Option, Some}
use Rattle.std.proofs.Common.{None, Bor, ap, sym, ◌∙◌}
use Rattle.std.specs.Prelude.{◌==◌, IfSome, IfNone}
use Rattle.std.specs.Option.{MatchOption}
use Rattle.std.specs.List.{slice_split, position_or_len, before_first, after_first, join_with_byte}
use Rattle.std.proofs.lemmas.Bool.{ne_eqb}
use Rattle.std.proofs.lemmas.List.Elements.{All-from_get_or}
use Rattle.std.proofs.lemmas.List.Splits.{slice_split_first, slice_split_none, join_with_byte-slice_split}
use Rattle.std.proofs.Math.Seq.{take-append_seam, drop-append_seam}

-- what stands between the spaces
abbrev pub parts : List ℕ → List (List ℕ)
parts text = slice_split (λ b. b == 32) text

pub first_found : (text : List ℕ) (r : Option (Bor (List ℕ) × Bor (List ℕ)))
    → MatchOption r (position_or_len (λ b. b == 32) text ≡ length text)
    (λ x. (position_or_len (λ b. b == 32) text < length text) × (x.0.now ≡ before_first (λ b. b == 32) text)
    × (x.1.now ≡ after_first (λ b. b == 32) text))
    → IfSome r (λ x. parts text ≡ x.0.now ∷ parts x.1.now)
first_found text None h = tt
first_found text (Some x) h = slice_split_first (λ b. b == 32) text 0 h.0 ∙ (λ i. sym h.1 i ∷ parts (sym h.2 i))

pub first_none : (text : List ℕ) (r : Option (Bor (List ℕ) × Bor (List ℕ)))
    → MatchOption r ((i : ℕ) → i < length text → get_or text i 0 ≢ 32) (λ x. (text ≡ x.0.now ++ 32 ∷ x.1.now)
    × ((i : ℕ) → i < length x.0.now → get_or x.0.now i 0 ≢ 32))
    → IfNone r (parts text ≡ text ∷ [])
first_none text None h = slice_split_none (λ b. b == 32) text
    (All-from_get_or (λ b. (b == 32) ≡ false) text 0 (λ i l. ne_eqb _ 32 (h i l)))
first_none text (Some x) h = tt

-- the parts, joined, are the text
pub joined_parts : (text : List ℕ) (tokens : List (List ℕ)) → parts text ≡ tokens → text ≡ join_with_byte 32 tokens
joined_parts text tokens e = sym (join_with_byte-slice_split 32 text) ∙ ap (join_with_byte 32) e

-- lists that are the same from fronts of one length on
pub same_ends : {A : Type 0} (xs ys us vs : List A) → length xs ≡ length ys → xs ++ us ≡ ys ++ vs → (xs ≡ ys)
    × (us ≡ vs)
same_ends xs ys us vs len e = (
  sym (take-append_seam xs us) ∙ ap (take (length xs)) e ∙ ap (λ n. take n (ys ++ vs)) len ∙ take-append_seam ys vs,
  sym (drop-append_seam xs us) ∙ ap (drop (length xs)) e ∙ ap (λ n. drop n (ys ++ vs)) len ∙ drop-append_seam ys vs,
)
