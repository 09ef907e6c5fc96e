-- A line, without its line feed.
use Rattle.std.proofs.Common.{◌≡◌, ℕ, List, [], ◌∷◌, ◌++◌, length, take, ap, refl}
use Rattle.std.specs.Prelude.{slice_index}

pub last_is : (text : List ℕ) (byte : ℕ) → slice_index (text ++ byte ∷ []) (length text) ≡ byte
last_is [] byte = refl
last_is (x ∷ text) byte = last_is text byte

pub front_is : (text : List ℕ) (byte : ℕ) → take (length text) (text ++ byte ∷ []) ≡ text
front_is [] byte = refl
front_is (x ∷ text) byte = ap (λ l. x ∷ l) (front_is text byte)
