-- Text from outside, as it is printed on a terminal. own
use Rattle.std.specs.Prelude.{◌≡◌, ℕ, ◌+◌, ◌-◌, ◌/◌, ◌%◌, Bool, true, ◌&&◌, List, [], ◌∷◌, ◌++◌, codes, nat_le, length}
use Rattle.std.specs.Prelude.{take, drop, if◌then◌else◌}
use Rattle.std.specs.List.{flat_map}

-- a printable character of ASCII, including the space (32)
abbrev pub is_printed : ℕ → Bool
is_printed b = nat_le 32 b && nat_le b 126

abbrev pub IsPrinted : ℕ → Type 0
IsPrinted b = is_printed b ≡ true

-- the hexadecimal digit of a number below 16
abbrev pub digit : ℕ → ℕ
digit n = if nat_le n 9 then 48 + n else 87 + n

-- a byte that isn't printable becomes a backslash, an x, and its two digits
abbrev pub escaped_byte : ℕ → List ℕ
escaped_byte b = if is_printed b then b ∷ [] else 92 ∷ 120 ∷ digit (b / 16 % 16) ∷ digit (b % 16) ∷ []

abbrev pub escaped : List ℕ → List ℕ
escaped text = flat_map escaped_byte text

-- a text of at most 200 characters, or the two ends of a longer one
abbrev pub cut : List ℕ → List ℕ
cut text = if nat_le (length text) 200 then text else take 99 text ++ codes ".." ++ drop (length text - 99) text

abbrev pub shown : List ℕ → List ℕ
shown text = cut (escaped text)
