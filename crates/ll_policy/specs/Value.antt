-- Which values a policy accepts. own
use Rattle.std.specs.Prelude.{bytes_eq, ℕ, zero, suc, ◌%◌, ◌^◌, ℤ, pos, negsuc, Bool, false, ◌==◌, ◌&&◌, ◌||◌, nat_le}
use Rattle.std.specs.Prelude.{List, [], ◌∷◌, length}
use Rattle.std.specs.List.{list_any, list_all}
use Rattle.ll_rights.specs.declared.kind.Kind.TheVariants.{Reg, Dir, Sym, Fifo, Sock, Char, Block}
use Rattle.ll_rights.specs.Kind.{kind_text}
use Rattle.ll_rights.specs.Access.{access_text}
use Rattle.ll_path.specs.Path.{path_refusals}

-- there are two versions of the format
abbrev pub is_version : ℤ → Bool
is_version (pos n) = (n == 1) || (n == 2)
is_version (negsuc n) = false

-- an ABI level
abbrev pub is_level : ℤ → Bool
is_level (pos n) = nat_le 1 n && nat_le n 3
is_level (negsuc n) = false

-- a text that spells a path: printable characters of ASCII, and no reason to refuse the path
abbrev pub is_path : List ℕ → Bool
is_path text = list_all (λ b. nat_le 0x21 b && nat_le b 0x7e) text && (length (path_refusals text) == 0)

-- a kind's name
abbrev pub is_kind : List ℕ → Bool
is_kind text = list_any (λ kind. bytes_eq text (kind_text kind)) (Reg ∷ Dir ∷ Sym ∷ Fifo ∷ Sock ∷ Char ∷ Block ∷ [])

-- some number below the limit passes
unfoldable pub some_below : ℕ → (ℕ → Bool) → Bool
some_below zero passes = false
some_below (suc n) passes = passes n || some_below n passes

-- the text of some set of rights
abbrev pub is_rights : List ℕ → Bool
is_rights text = some_below (2 ^ 64) (λ set. bytes_eq text (access_text set))

-- a hexadecimal digit, in lower case
abbrev pub is_digit : ℕ → Bool
is_digit b = (nat_le 48 b && nat_le b 57) || (nat_le 97 b && nat_le b 102)

-- bytes: two digits each, at most 65,536
abbrev pub are_bytes : List ℕ → Bool
are_bytes text = (nat_le (length text) 131072 && (length text % 2 == 0)) && list_all is_digit text

-- the bytes of a node of this kind. Only a regular file has any
abbrev pub is_data : List ℕ → List ℕ → Bool
is_data kind text = bytes_eq kind (kind_text Reg) && are_bytes text

abbrev pub is_name_byte : ℕ → Bool
is_name_byte b = (nat_le 97 b && nat_le b 122) || (nat_le 48 b && nat_le b 57) || (b == 45)

-- a profile's name has 1 to 32 of `a` to `z`, `0` to `9` and `-`
abbrev pub is_name : List ℕ → Bool
is_name name = (nat_le 1 (length name) && nat_le (length name) 32) && list_all is_name_byte name
