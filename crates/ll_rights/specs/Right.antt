-- The fifteen rights: the bits of ABI 3, in order. linux/landlock.h, "Filesystem flags"
use Rattle.std.specs.Prelude.{ℕ, List, [], ◌∷◌, map, codes, slice_get, unwrap_or}
use Rattle.std.specs.List.{range_with_len}

abbrev pub execute : ℕ
execute = 0

abbrev pub write_file : ℕ
write_file = 1

abbrev pub read_file : ℕ
read_file = 2

abbrev pub read_dir : ℕ
read_dir = 3

abbrev pub remove_dir : ℕ
remove_dir = 4

abbrev pub remove_file : ℕ
remove_file = 5

abbrev pub make_char : ℕ
make_char = 6

abbrev pub make_dir : ℕ
make_dir = 7

abbrev pub make_reg : ℕ
make_reg = 8

abbrev pub make_sock : ℕ
make_sock = 9

abbrev pub make_fifo : ℕ
make_fifo = 10

abbrev pub make_block : ℕ
make_block = 11

abbrev pub make_sym : ℕ
make_sym = 12

abbrev pub refer : ℕ
refer = 13

abbrev pub truncate : ℕ
truncate = 14

abbrev pub all_rights : List ℕ
all_rights = range_with_len 0 15

abbrev pub right_names : List (List ℕ)
right_names = map codes (
    "execute" ∷ "write_file" ∷ "read_file" ∷ "read_dir" ∷ "remove_dir" ∷ "remove_file" ∷ "make_char" ∷ "make_dir"
    ∷ "make_reg" ∷ "make_sock" ∷ "make_fifo" ∷ "make_block" ∷ "make_sym" ∷ "refer" ∷ "truncate" ∷ [])

abbrev pub right_text : ℕ → List ℕ
right_text right = unwrap_or (slice_get right_names right) []
