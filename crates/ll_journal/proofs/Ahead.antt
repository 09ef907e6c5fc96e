-- The names ahead of a leg, as they are kept: where the next one begins, and how many names there are.
use Rattle.std.specs.Prelude.{◌≡◌, ℕ, zero, suc, ◌-◌, ◌<◌, ◌≤◌, ◌==◌, true, false, cond, [], ◌∷◌, ◌++◌, length, take}
use Rattle.std.specs.Prelude.{drop, None, slice_get, refl}
use Rattle.std.proofs.Common.{sym, subst, ap, ◌∙◌, arith, min, length-append}
use Rattle.std.proofs.Math.Seq.{drop-length}
use Rattle.std.proofs.lemmas.Bool.{eqb-true, eqb-false, eq-eqb, ne_eqb}
use Rattle.std.proofs.lemmas.List.{take-append-le}
use Rattle.std.proofs.lemmas.Option.{slice_get_past}
use Rattle.ll_path.specs.Name.{same_name}
use Rattle.ll_path.specs.Path.{Path, common, parent, is_root}
use Rattle.ll_path.specs.Place.{IsPlace}
use Rattle.ll_path.specs.declared.place.Place.{Place}
use Rattle.ll_path.proofs.CommonNames.{spelled_len}
use Rattle.ll_path.proofs.NameLemmas.{same_name-from_equal}
use Rattle.ll_laws.proofs.Ways.{common_left}
use Rattle.ll_journal.specs.declared.leg.Ahead.{Ahead}
use Rattle.ll_journal.specs.Seated.{IsAhead, name_on, none_left}

-- ---- a path that goes on beyond the way

pub parent_begins : (p : Path) → (more : Path) × (parent p ++ more ≡ p)
parent_begins [] = ([], refl)
parent_begins (x ∷ []) = (x ∷ [], refl)
parent_begins (x ∷ y ∷ p) = let rest = parent_begins (y ∷ p) in (rest.0, ap (λ (q : Path). x ∷ q) rest.1)

pub length-parent : (p : Path) → length p - 1 ≡ length (parent p)
length-parent [] = omega arith
length-parent (x ∷ []) = omega arith
length-parent (x ∷ y ∷ p) = let rest = length-parent (y ∷ p) in omega arith

-- a place of the way is one of the path
pub longer : (way more path : Path) (place : Place) → way ++ more ≡ path → IsPlace way place → IsPlace path place
longer way more path place e at =
    let within = at.within in
    subst (λ (p : Path). IsPlace p place) e (record {
      within = omega (arith, length-append way more);
      before = at.before ∙ sym (ap spelled_len (take-append-le place.depth way more within));
    })

-- and the other way round, as far as the way goes
pub shorter : (way more path : Path) (place : Place) → way ++ more ≡ path → place.depth ≤ length way
    → IsPlace path place → IsPlace way place
shorter way more path place e within at = record {
  within = within;
  before = at.before ∙ ap (λ (p : Path). spelled_len (take place.depth p)) (sym e)
      ∙ ap spelled_len (take-append-le place.depth way more within);
}

get_begun : (way more : Path) (k : ℕ) → k < length way → slice_get (way ++ more) k ≡ slice_get way k
get_begun [] more k lt = absurd (omega arith)
get_begun (x ∷ way) more zero lt = refl
get_begun (x ∷ way) more (suc k) lt = get_begun way more k (omega arith)

pub get_longer : (way more path : Path) (k : ℕ) → way ++ more ≡ path → k < length way
    → slice_get path k ≡ slice_get way k
get_longer way more path k e lt = ap (λ (p : Path). slice_get p k) (sym e) ∙ get_begun way more k lt

-- ---- whether a name is ahead, and which

all_taken : (way : Path) (depth : ℕ) → is_root (drop depth way) ≡ true → depth ≤ length way → depth ≡ length way
all_taken [] zero e le = refl
all_taken [] (suc depth) e le = absurd (omega arith)
all_taken (x ∷ way) zero e le = absurd (cc e)
all_taken (x ∷ way) (suc depth) e le = let rest = all_taken way depth e (omega arith) in omega arith

none_after : (way : Path) (depth : ℕ) → depth ≡ length way → is_root (drop depth way) ≡ true
none_after way depth e = ap is_root (ap (λ (k : ℕ). drop k way) e ∙ drop-length way)

-- no name is left where the whole way is taken
pub ended : (way : Path) (depth : ℕ) (ahead : Ahead) → IsAhead way depth ahead
    → none_left ahead ≡ is_root (drop depth way)
ended way depth ahead at =
    (λ i. at.depth i == at.len i)
    ∙ elim (is_root (drop depth way)) as (λ b. is_root (drop depth way) ≡ b → (depth == length way) ≡ b) [
      | true ↦ λ e. eq-eqb depth (length way)
          (all_taken way depth e (subst (λ (k : ℕ). k ≤ length way) at.depth at.place.within))
      | false ↦ λ e. ne_eqb depth (length way) (λ f. absurd (cc (sym e ∙ none_after way depth f)))
    ] refl

pub all_gone : (way : Path) (depth : ℕ) (ahead : Ahead) → IsAhead way depth ahead → is_root (drop depth way) ≡ true
    → depth ≡ length way
all_gone way depth ahead at e = all_taken way depth e (subst (λ (k : ℕ). k ≤ length way) at.depth at.place.within)

-- the next name is read from the whole path
pub name_is : (way more path : Path) (depth : ℕ) (ahead : Ahead) → way ++ more ≡ path → IsAhead way depth ahead
    → name_on path ahead ≡ slice_get way depth
name_is way more path depth ahead e at =
    elim (none_left ahead) as (λ b. none_left ahead ≡ b
    → cond b None (slice_get path ahead.place.depth) ≡ slice_get way depth) [
      | true ↦ λ f.
          let whole : ahead.place.depth ≡ length way = eqb-true ahead.place.depth ahead.len f ∙ at.len in
          sym (slice_get_past way depth (omega (arith, whole, at.depth)))
      | false ↦ λ f.
          let some = eqb-false ahead.place.depth ahead.len f in
          let within = at.place.within in
          get_longer way more path ahead.place.depth e (omega (arith, some, within, at.len))
          ∙ ap (slice_get way) at.depth
    ] refl

-- ---- how many names both ways begin with

-- names are the same where their bytes are
pub common_itself : (p : Path) → common p p ≡ p
common_itself [] = refl
common_itself (x ∷ p) = ap (λ b. cond b (x ∷ common p p) []) (same_name-from_equal x x refl)
    ∙ ap (λ (q : Path). x ∷ q) (common_itself p)

pub common_nothing : (p : Path) → common p [] ≡ []
common_nothing [] = refl
common_nothing (x ∷ p) = refl

pub common_less : (p q : Path) → length (common p q) ≤ length p
common_less p q = let r = common_left p q in let n = ap length r.1 in let m = length-append (common p q) r.0 in
    omega arith

-- as many as both paths, but none of their last names
pub length-common_parents : (p q : Path)
    → length (common (parent p) (parent q)) ≡ min (length (common p q)) (min (length (parent p)) (length (parent q)))
length-common_parents [] q = omega arith
length-common_parents (x ∷ []) q = omega arith
length-common_parents (x ∷ y ∷ p) [] = omega arith
length-common_parents (x ∷ y ∷ p) (z ∷ []) = omega arith
length-common_parents (x ∷ y ∷ p) (z ∷ w ∷ q) =
    elim (same_name x z) as (λ b. length (cond b (x ∷ common (parent (y ∷ p)) (parent (w ∷ q))) [])
    ≡ min (length (cond b (x ∷ common (y ∷ p) (w ∷ q)) []))
    (min (length (parent (x ∷ y ∷ p))) (length (parent (z ∷ w ∷ q))))) [
      | true ↦ omega (arith, length-common_parents (y ∷ p) (w ∷ q))
      | false ↦ omega arith
    ]
