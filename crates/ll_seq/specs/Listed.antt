-- What replies hold. own
use Rattle.std.specs.Prelude.{ℕ, ◌<◌, ◌≤◌, List, length, slice_index}
use Rattle.std.specs.List.{AllByRecursion}
use Rattle.std.specs.List.Sorted.{IsStrictlySortedBy}
use Rattle.std.specs.Ordering.{nat_cmp}
use Rattle.std.specs.Cmp.Lexicographic.{slice_cmp}
use Rattle.ll_rights.specs.declared.limits.TheConstants.{DATA_BYTES}
use Rattle.ll_path.specs.Name.{IsName}

-- names that strictly increase by their bytes
abbrev pub AreListed : List (List ℕ) → Type 0
AreListed names = AllByRecursion IsName names × IsStrictlySortedBy (slice_cmp nat_cmp) names

-- the bytes that one read may return
abbrev pub IsData : List ℕ → Type 0
IsData bytes = ((i : ℕ) → slice_index bytes i < 256) × (length bytes ≤ DATA_BYTES)
