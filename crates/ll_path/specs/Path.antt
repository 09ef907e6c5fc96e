-- Paths. path_resolution(7), in this project's profile
use Rattle.std.specs.Prelude.{ℕ, ◌==◌, Bool, true, false, not, ◌&&◌, ◌||◌, List, [], ◌∷◌, ◌++◌, length, nat_eq, nat_lt}
use Rattle.std.specs.Prelude.{drop, if◌then◌else◌, codes}
use Rattle.std.specs.List.{slice_split, starts_with, list_any, join_with_byte}
use Rattle.ll_rights.specs.declared.errno.Errno.{Errno}
use Rattle.ll_rights.specs.declared.errno.Errno.TheVariants.{EINVAL, ENAMETOOLONG}
use Rattle.ll_rights.specs.Errno.{refuse}
use Rattle.ll_path.specs.Name.{same_name}

-- a path: its names from the root on. The root is the empty list
abbrev pub Path : Type 0
Path = List (List ℕ)

-- the names between a text's slashes (47). `/` has none
abbrev pub path_of_text : List ℕ → Path
path_of_text text = if nat_lt (length text) 2 then [] else slice_split (λ b. b == 47) (drop 1 text)

-- no name: the empty text, and the two names that this profile excludes
abbrev pub is_no_name : List ℕ → Bool
is_no_name name = (length name == 0) || same_name name (codes ".") || same_name name (codes "..")

-- NAME_MAX
abbrev pub is_long_name : List ℕ → Bool
is_long_name name = nat_lt 255 (length name)

-- Why a text is no path; the first reason is reported. With its final NUL a path has at most PATH_MAX, 4,096 bytes
abbrev pub path_refusals : List ℕ → List Errno
path_refusals text =
    refuse (nat_lt 4095 (length text)) ENAMETOOLONG
    ++ refuse (not (starts_with nat_eq text (codes "/"))) EINVAL
    ++ refuse (list_any is_no_name (path_of_text text)) EINVAL
    ++ refuse (list_any is_long_name (path_of_text text)) ENAMETOOLONG
    ++ refuse (nat_lt 64 (length (path_of_text text))) ENAMETOOLONG

abbrev pub path_text : Path → List ℕ
path_text path = 47 ∷ join_with_byte 47 path

abbrev pub is_root : Path → Bool
is_root [] = true
is_root (name ∷ path) = false

-- the path of the parent directory. The root is its own parent
abbrev pub parent : Path → Path
parent [] = []
parent (name ∷ []) = []
parent (name ∷ next ∷ path) = name ∷ parent (next ∷ path)

-- the last name of a path, or the empty text for the root
abbrev pub last_name : Path → List ℕ
last_name [] = []
last_name (name ∷ []) = name
last_name (name ∷ next ∷ path) = last_name (next ∷ path)

-- the second path begins with all names of the first, and has more
abbrev pub is_beneath : Path → Path → Bool
is_beneath upper [] = false
is_beneath [] (name ∷ lower) = true
is_beneath (this ∷ upper) (name ∷ lower) = same_name this name && is_beneath upper lower

-- the longest prefix that both paths share
abbrev pub common : Path → Path → Path
common [] q = []
common (this ∷ p) [] = []
common (this ∷ p) (name ∷ q) = if same_name this name then this ∷ common p q else []
