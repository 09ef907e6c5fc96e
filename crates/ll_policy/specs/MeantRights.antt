-- Which rights a misspelled text means. own
use Rattle.std.specs.Prelude.{◌≡◌, ◌≤◌, ◌<◌, ℕ, ◌^◌, List, [], ◌∷◌, length, bit_or, nat_eq}
use Rattle.std.specs.Str.{chars}
use Rattle.strsim.specs.Edits.{levenshtein_row}
use Rattle.ll_rights.specs.Right.{right_text}

-- how many characters have to be added, removed or changed to make the one word the other
abbrev pub edits : List ℕ → List ℕ → ℕ
edits word other = levenshtein_row nat_eq (chars word) (chars other) (length (chars other))

-- the right with the nearest name, at most two edits away; of several the first
pub record IsMeant (word : List ℕ) (right : ℕ) : Type 0 where
  pub known : right < 15
  pub near : edits word (right_text right) ≤ 2
  pub nearest : (other : ℕ) → other < 15 → edits word (right_text right) ≤ edits word (right_text other)
  pub first : (other : ℕ) → other < right → edits word (right_text right) < edits word (right_text other)

-- no right has a name like this
abbrev pub IsStrange : List ℕ → Type 0
IsStrange word = (right : ℕ) → right < 15 → 2 < edits word (right_text right)

-- this set and the rights that the words mean, together
abbrev pub Mean : (set : ℕ) → List (List ℕ) → ℕ → Type 0
Mean set [] all = all ≡ set
Mean set (word ∷ words) all = (right : ℕ) × IsMeant word right × Mean (bit_or set (2 ^ right)) words all
