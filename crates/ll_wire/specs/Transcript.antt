-- What is written in answer to the input, line by line, whatever the lines say. own
use Rattle.std.specs.Prelude.{◌≡◌, ℕ, List, [], ◌∷◌, ◌++◌, Option}
use Rattle.std.specs.Io.KnownBytes.{Appends}

-- Each piece is answered with one line, in order. `Tells s piece line t`: the piece is answered with this line, and
-- leads from s to t
module _ {S : Type 0} (Tells : S → List ℕ → List ℕ → S → Type 0) where
  abbrev pub Transcript : S → List (List ℕ) → List ℕ → S → Type 0
  Transcript s [] text t = (text ≡ []) × (t ≡ s)
  Transcript s (piece ∷ pieces) text t =
      (line : List ℕ) × (mid : S) × (rest : List ℕ) × Tells s piece line mid × Transcript mid pieces rest t
      × (text ≡ line ++ rest)

-- a writer whose bytes are known gained such a text
abbrev pub Writes : (contents contents' : Option (List ℕ)) → (List ℕ → Type 0) → Type 0
Writes contents contents' IsText = (text : List ℕ) × IsText text × Appends contents contents' text

-- how many reads of one input may return bytes
abbrev pub most_reads : ℕ
most_reads = 1000000000
