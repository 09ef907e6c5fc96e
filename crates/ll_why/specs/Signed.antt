-- Rights granted more and less, as tokens of a line. own
use Rattle.std.specs.Prelude.{ℕ, List, [], ◌∷◌, ◌++◌, bit_and, bit_xor, codes, ◌==◌, if◌then◌else◌}
use Rattle.ll_rights.specs.Access.{access_text}

-- the rights of the set that the others lack
abbrev pub beyond : (set others : ℕ) → ℕ
beyond set others = bit_xor set (bit_and set others)

-- the rights behind this sign, if there are any
abbrev pub signed : List ℕ → ℕ → List (List ℕ)
signed sign rights = if rights == 0 then [] else (sign ++ access_text rights) ∷ []

-- the rights that are granted and weren't, and those that were and aren't
abbrev pub change_tokens : (old new : ℕ) → List (List ℕ)
change_tokens old new = signed (codes "+") (beyond new old) ++ signed (codes "-") (beyond old new)
