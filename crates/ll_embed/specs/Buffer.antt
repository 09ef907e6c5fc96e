-- What an exported function gives: a status, a text in the caller's buffer, and its length. own
use Rattle.std.specs.Prelude.{◌≡◌, ◌⊎◌, ◌<◌, ◌≤◌, ℕ, List, ◌++◌, length, drop}

-- The text is at the front of the buffer, and the rest of it unchanged; or it is too long, and nothing is written
abbrev pub Comes : (answered : ℕ) (text old new : List ℕ) (status : ℕ) → Type 0
Comes answered text old new status =
    ((length text ≤ length old) × (status ≡ answered) × (new ≡ text ++ drop (length text) old))
    ⊎ ((length old < length text) × (status ≡ 5) × (new ≡ old))

-- there is an answer, a status and a text. The text is in the buffer, or too long for it; its length is told anyway
abbrev pub Gives : (IsAnswer : (status : ℕ) (text : List ℕ) → Type 0) → (old new : List ℕ) (len status : ℕ) → Type 0
Gives IsAnswer old new len status =
    (answered : ℕ) × (text : List ℕ) × IsAnswer answered text × (len ≡ length text) × Comes answered text old new status
