-- Maps of walks: changed walk by walk, searched, and as a commit leaves them.
use Rattle.std.specs.Prelude.{◌≡◌, ◌≢◌, ℕ, Bool, true, false, cond, ◌&&◌, ◌||◌, List, [], ◌∷◌, map, Option, Some, None}
use Rattle.std.specs.Prelude.{option_map, refl}
use Rattle.std.specs.declared.cmp.Ordering.{Ordering}
use Rattle.std.specs.Ordering.{nat_cmp, eq_by_cmp, is_lt}
use Rattle.std.specs.List.{list_any}
use Rattle.std.specs.Cmp.{nat_cmp_total, unsigned_tied}
use Rattle.std.specs.FinMap.{nat_cmp-IsAntisymmetric}
use Rattle.std.specs.FinMap.Entries.{find, is_sorted, below_all}
use Rattle.std.proofs.Common.{sym, ap, ◌∙◌}
use Rattle.std.proofs.lemmas.Bool.{eqb-true}
use Rattle.ll_rights.specs.Map.{Map, get, remove, entries}
use Rattle.ll_rights.proofs.Maps.{true_is, get-from_sorted, got_left}
use Rattle.ll_seq.proofs.Parted.{or_left, or_right}
use Rattle.ll_laws.proofs.Chains.{same_Some}
use Rattle.ll_laws.proofs.Unrefused.{neither}
use Rattle.ll_laws.specs.Walk.{Walk, passes as walk_passes}
use Rattle.ll_laws.specs.World.{World, map_values, overtaken}

below_map : {K X : Type 0} (R : K → K → Ordering) (f : X → X) (k : K) (es : List (K × X))
    → below_all R k (map (λ (e : K × X). (e.0, f e.1)) es) ≡ below_all R k es
below_map R f k [] = refl
below_map R f k (e ∷ es) = ap (λ b. is_lt (R k e.0) && b) (below_map R f k es)

sorted_map : {K X : Type 0} (R : K → K → Ordering) (f : X → X) (es : List (K × X))
    → is_sorted R (map (λ (e : K × X). (e.0, f e.1)) es) ≡ is_sorted R es
sorted_map R f [] = refl
sorted_map R f (e ∷ es) = ap (λ b. b && is_sorted R (map (λ e. (e.0, f e.1)) es)) (below_map R f e.0 es)
    ∙ ap (λ b. below_all R e.0 es && b) (sorted_map R f es)

find_map : {K X : Type 0} (R : K → K → Ordering) (f : X → X) (q : K) (es : List (K × X))
    → find R q (map (λ (e : K × X). (e.0, f e.1)) es) ≡ option_map f (find R q es)
find_map R f q [] = refl
find_map R f q (e ∷ es) = elim (eq_by_cmp R q e.0) as
    (λ b. cond b (Some (f e.1)) (find R q (map (λ e. (e.0, f e.1)) es))
    ≡ option_map f (cond b (Some e.1) (find R q es))) [ true ↦ refl | false ↦ find_map R f q es ]

pub get-map_values : {K X : Type 0} {R : K → K → Ordering} (f : X → X) (m : Map R X) (q : K)
    → get (map_values f m) q ≡ option_map f (get m q)
unfolding map_values get
get-map_values {R = R} f m q =
    get-from_sorted R (map (λ e. (e.0, f e.1)) m.list) q (sorted_map R f m.list ∙ true_is _ m.sorted)
    ∙ find_map R f q m.list

any_found : (f : ℕ × Walk → Bool) (es : List (ℕ × Walk)) (q : ℕ) (x : Walk) → find nat_cmp q es ≡ Some x
    → f (q, x) ≡ true → list_any f es ≡ true
any_found f [] q x e h = absurd (cc e)
any_found f (y ∷ es) q x e h =
    elim (eq_by_cmp nat_cmp q y.0) as (λ b. eq_by_cmp nat_cmp q y.0 ≡ b → cond b (Some y.1) (find nat_cmp q es) ≡ Some x
    → (f y || list_any f es) ≡ true) [
      | true ↦ λ t g. or_left (f y) _ (
          let key : q ≡ y.0 = eqb-true q y.0 (sym (unsigned_tied q y.0) ∙ t) in
          let value : y.1 ≡ x = same_Some y.1 x g in
          ap f (λ i. (sym key i, value i)) ∙ h)
      | false ↦ λ t g. or_right (f y) _ (any_found f es q x g h)
    ] refl e

-- a test that a walk of the map passes
pub found : (m : Map nat_cmp Walk) (f : ℕ × Walk → Bool) (q : ℕ) (x : Walk) → get m q ≡ Some x → f (q, x) ≡ true
    → list_any f (entries m) ≡ true
unfolding get entries
found m f q x e h = any_found f m.list q x e h

-- a walk after a commit was another's before
abbrev pub WasOther : World → ℕ → List ℕ → ℕ → Walk → Type 0
WasOther w number moved c v = (c ≢ number) × (u : Walk) × (get w.walks c ≡ Some u) × (overtaken moved u ≡ v)

pub was_other : (w : World) (number : ℕ) (moved : List ℕ) (c : ℕ) (v : Walk)
    → get (map_values (overtaken moved) (remove w.walks number)) c ≡ Some v → WasOther w number moved c v
was_other w number moved c v e =
    by (get (remove w.walks number) c) refl (sym (get-map_values (overtaken moved) (remove w.walks number) c) ∙ e)
  where
    by : (o : Option Walk) → get (remove w.walks number) c ≡ o → option_map (overtaken moved) o ≡ Some v
        → WasOther w number moved c v
    by None is f = absurd (cc f)
    by (Some u) is f = let g = got_left nat_cmp_total nat_cmp-IsAntisymmetric w.walks number c u is in
        (g.1, u, g.0, same_Some (overtaken moved u) v f)

-- one that isn't stale wasn't, and doesn't pass what was moved
pub not_overtaken : (moved : List ℕ) (u v : Walk) → overtaken moved u ≡ v → v.stale ≡ false → (u.stale ≡ false)
    × (list_any (walk_passes u) moved ≡ false)
not_overtaken moved u v e f = neither u.stale (list_any (walk_passes u) moved) (ap (λ (x : Walk). x.stale) e ∙ f)
