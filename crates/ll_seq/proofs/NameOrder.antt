-- The names of a directory rise.
use Rattle.std.proofs.Common.{◌≡◌, ◌==◌, ℕ, zero, suc, ◌+◌, ◌<◌, true, false, cond, T, List, [], ◌∷◌, ◌++◌, map, filter}
use Rattle.std.proofs.Common.{take, length, get_or, refl, ap, sym, ◌∙◌, subst}
use Rattle.std.specs.declared.cmp.Ordering.{Ordering}
use Rattle.std.specs.declared.cmp.Ordering.TheVariants.{Less, Equal}
use Rattle.std.specs.Ordering.{is_lt, nat_cmp, ordering_then}
use Rattle.std.specs.Cmp.{nat_cmp_total, tied_itself}
use Rattle.std.specs.Cmp.Lexicographic.{slice_cmp}
use Rattle.std.specs.FinMap.Entries.{below_all, is_sorted}
use Rattle.std.specs.List.{AllByRecursion}
use Rattle.std.specs.List.Sorted.{IsStrictlySortedBy}
use Rattle.std.proofs.lemmas.Bool.{eqb-true}
use Rattle.std.proofs.lemmas.List.{take_more, take-map, map-append}
use Rattle.ll_rights.specs.Map.{Map, entries}
use Rattle.ll_path.specs.Name.{IsName}
use Rattle.ll_seq.specs.declared.dentries.Dentry.{Dentry}
use Rattle.ll_seq.specs.State.{Name, dentry_cmp}
use Rattle.ll_seq.specs.Listed.{AreListed}
use Rattle.ll_seq.proofs.DentryRows.{both, is_less}

abbrev by_bytes : Name → Name → Ordering
by_bytes = slice_cmp nat_cmp

abbrev named_in : ℕ → List (Dentry × ℕ) → List Name
named_in directory es = map (λ (e : Dentry × ℕ). e.0.name) (filter (λ (e : Dentry × ℕ). e.0.directory == directory) es)

same_directory : (a b : Dentry) (directory : ℕ) → dentry_cmp a b ≡ Less → (a.directory == directory) ≡ true
    → (b.directory == directory) ≡ true → by_bytes a.name b.name ≡ Less
same_directory a b directory less at_a at_b =
    let same : a.directory ≡ b.directory =
    eqb-true a.directory directory at_a ∙ sym (eqb-true b.directory directory at_b) in
    let tied : nat_cmp a.directory b.directory ≡ Equal =
    ap (nat_cmp a.directory) (sym same) ∙ tied_itself nat_cmp_total a.directory in
    sym (ap (λ r. ordering_then r (by_bytes a.name b.name)) tied) ∙ less

all_above : (directory : ℕ) (a : Dentry) (es : List (Dentry × ℕ)) → (a.directory == directory) ≡ true
    → T (below_all dentry_cmp a es) → AllByRecursion (λ name. by_bytes a.name name ≡ Less) (named_in directory es)
all_above directory a [] here h = tt
all_above directory a (e ∷ es) here h =
    let parts = both (is_lt (dentry_cmp a e.0)) (below_all dentry_cmp a es) h in
    elim (e.0.directory == directory) as (λ b. (e.0.directory == directory) ≡ b
    → AllByRecursion (λ name. by_bytes a.name name ≡ Less)
    (map (λ (x : Dentry × ℕ). x.0.name)
    (cond b (e ∷ filter (λ (x : Dentry × ℕ). x.0.directory == directory) es)
    (filter (λ (x : Dentry × ℕ). x.0.directory == directory) es)))) [
      | true ↦ λ there. (
        same_directory a e.0 directory (is_less (dentry_cmp a e.0) parts.0) here there,
        all_above directory a es here parts.1,
      )
      | false ↦ λ there. all_above directory a es here parts.1
    ] refl

pub names_rise : (directory : ℕ) (es : List (Dentry × ℕ)) → T (is_sorted dentry_cmp es)
    → IsStrictlySortedBy by_bytes (named_in directory es)
unfolding IsStrictlySortedBy
names_rise directory [] h = tt
names_rise directory (e ∷ es) h =
    let parts = both (below_all dentry_cmp e.0 es) (is_sorted dentry_cmp es) h in
    elim (e.0.directory == directory) as (λ b. (e.0.directory == directory) ≡ b
    → IsStrictlySortedBy by_bytes
    (map (λ (x : Dentry × ℕ). x.0.name)
    (cond b (e ∷ filter (λ (x : Dentry × ℕ). x.0.directory == directory) es)
    (filter (λ (x : Dentry × ℕ). x.0.directory == directory) es)))) [
      | true ↦ λ here. (all_above directory e.0 es here parts.0, names_rise directory es parts.1)
      | false ↦ λ here. names_rise directory es parts.1
    ] refl

-- of any map of places
pub listed_rise : (m : Map dentry_cmp ℕ) (directory : ℕ) → IsStrictlySortedBy by_bytes (named_in directory (entries m))
unfolding entries
listed_rise m directory = names_rise directory m.list m.sorted

all_take : {X : Type 0} (P : X → Type 0) (xs : List X) (n : ℕ) → AllByRecursion P xs → AllByRecursion P (take n xs)
all_take P xs zero h = tt
all_take P [] (suc n) h = tt
all_take P (x ∷ xs) (suc n) h = (h.0, all_take P xs n h.1)

pub rise_take : (xs : List Name) (n : ℕ) → IsStrictlySortedBy by_bytes xs → IsStrictlySortedBy by_bytes (take n xs)
unfolding IsStrictlySortedBy
rise_take xs zero h = tt
rise_take [] (suc n) h = tt
rise_take (x ∷ xs) (suc n) h = (all_take (λ y. by_bytes x y ≡ Less) xs n h.0, rise_take xs n h.1)

all_push : {X : Type 0} (P : X → Type 0) (xs : List X) (x : X) → AllByRecursion P xs → P x
    → AllByRecursion P (xs ++ x ∷ [])
all_push P [] x h p = (p, tt)
all_push P (y ∷ xs) x h p = (h.0, all_push P xs x h.1 p)

pub none_listed : AreListed []
unfolding IsStrictlySortedBy
none_listed = (tt, tt)

abbrev name_at : Dentry × ℕ → Name
name_at e = e.0.name

-- one more of the names told
pub told_more : (so_far : List Name) (name : Name) (rows : List (Dentry × ℕ)) (i : ℕ) (row : Dentry × ℕ)
    → so_far ≡ map name_at (take i rows) → name ≡ row.0.name → row ≡ get_or rows i row → i < length rows
    → so_far ++ name ∷ [] ≡ map name_at (take (i + 1) rows)
told_more so_far name rows i row told is at within =
    ap (λ (l : List Name). l ++ name ∷ []) told
    ∙ ap (λ (n : Name). map name_at (take i rows) ++ n ∷ []) (is ∙ ap name_at at)
    ∙ sym (ap (map name_at) (take_more rows i row within) ∙ map-append name_at (take i rows) (get_or rows i row ∷ []))

pub listed_more : (so_far : List Name) (name : Name) (rows : List (Dentry × ℕ)) (i : ℕ) (row : Dentry × ℕ)
    → AreListed so_far → IsName name → so_far ≡ map name_at (take i rows) → name ≡ row.0.name → row ≡ get_or rows i row
    → i < length rows
    → IsStrictlySortedBy by_bytes (map name_at rows) → AreListed (so_far ++ name ∷ [])
listed_more so_far name rows i row listed is told names at within rise =
    let whole = told_more so_far name rows i row told names at within ∙ sym (take-map name_at (i + 1) rows) in (
      all_push IsName so_far name listed.0 is,
      subst (IsStrictlySortedBy by_bytes) (sym whole) (rise_take (map name_at rows) (i + 1) rise),
    )
