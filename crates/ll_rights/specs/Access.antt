-- Sets of rights, as linux/landlock.h writes them: a number with a bit for each right.
use Rattle.std.specs.Prelude.{ℕ, ◌/◌, ◌%◌, ◌^◌, Bool, ◌==◌, List, ◌++◌, map, filter, codes, bit_and, nat_lt}
use Rattle.std.specs.Prelude.{if◌then◌else◌}
use Rattle.std.specs.List.{join_with_byte}
use Rattle.std.specs.Char.{digit_char}
use Rattle.std.specs.Int.Digits.{digits_of}
use Rattle.ll_rights.specs.Right.{all_rights, right_text}

abbrev pub holds : ℕ → ℕ → Bool
holds set right = (set / 2 ^ right) % 2 == 1

abbrev pub is_within : ℕ → ℕ → Bool
is_within some set = bit_and set some == some

-- all fifteen rights, and those that apply to a node that is not a directory
abbrev pub all_set : ℕ
all_set = 0x7fff

abbrev pub file_set : ℕ
file_set = 0x4007

-- landlock.rst, "Previous limitations": refer came with ABI 2, truncate with ABI 3
abbrev pub known_set : ℕ → ℕ
known_set abi = if nat_lt abi 2 then 0x1fff else if nat_lt abi 3 then 0x3fff else all_set

unfoldable pub names_among : List ℕ → ℕ → List (List ℕ)
names_among rights set = map right_text (filter (holds set) rights)

abbrev pub set_names : ℕ → List (List ℕ)
set_names set = names_among all_rights set

-- own. The text of a set: `none`, or the names of its rights joined by commas (44). If a bit belongs to no right, it is
-- `0x` and the digits in base 16, in lower case and with no leading zero
unfoldable pub access_text : ℕ → List ℕ
access_text set = if set == 0 then codes "none"
    else if nat_lt set (2 ^ 15) then join_with_byte 44 (set_names set)
    else codes "0x" ++ map digit_char (digits_of 16 set)
