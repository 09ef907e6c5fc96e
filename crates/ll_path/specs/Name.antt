-- Names in a directory. path_resolution(7); 255 is NAME_MAX of limits.h
use Rattle.std.specs.Prelude.{◌≢◌, ℕ, ◌≤◌, ◌<◌, Bool, List, length, codes}
use Rattle.std.specs.List.{AllByRecursion}
use Rattle.std.specs.Ordering.{eq_by_cmp, nat_cmp}
use Rattle.std.specs.Cmp.Lexicographic.{slice_cmp}
use Rattle.ll_path.specs.Word.{IsVisible}

-- visible bytes without a slash (47); neither `.` (the directory itself) nor `..` (its parent)
abbrev pub IsName : List ℕ → Type 0
IsName bytes = (0 < length bytes) × (length bytes ≤ 255) × AllByRecursion (λ b. IsVisible b × (b ≢ 47)) bytes
    × (bytes ≢ codes ".") × (bytes ≢ codes "..")

abbrev pub same_name : List ℕ → List ℕ → Bool
same_name = eq_by_cmp (slice_cmp nat_cmp)
