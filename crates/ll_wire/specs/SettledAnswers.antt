-- Answers that stay true. Cited by contracts between crates alone. own
use Rattle.std.specs.Prelude.{◌≡◌, ℕ, Bool, List}

-- an answer that led to s may as well lead to t
abbrev pub TellsStill : {S : Type 0} → (S → List ℕ → List ℕ → S → Type 0) → (s t : S) → Type 0
TellsStill {S} Tells s t = (a : S) (piece line : List ℕ) → Tells a piece line s → Tells a piece line t

-- nothing was answered between s and t: at most, earlier answers are kept
abbrev pub Settles : {S : Type 0} → (Tells : S → List ℕ → List ℕ → S → Type 0) → (Goes : S → S → Type 0)
    → (used : S → ℕ) → (over : S → Bool) → (s t : S) → Type 0
Settles Tells Goes used over s t =
    TellsStill Tells s t × Goes s t × (used t ≡ used s) × (over t ≡ over s)
