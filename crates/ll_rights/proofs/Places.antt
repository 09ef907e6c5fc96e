-- Lists of entries in order: where a new one goes, and what is left when one is taken out.
use Rattle.std.specs.Prelude.{◌≡◌, ℕ, suc, Bool, true, false, not, cond, T, ◌&&◌, List, [], ◌∷◌, Some, None, insert}
use Rattle.std.specs.Prelude.{remove as remove_at, slice_get, slice_set, refl}
use Rattle.std.specs.declared.cmp.Ordering.{Ordering}
use Rattle.std.specs.declared.cmp.Ordering.TheVariants.{Less, Equal, Greater}
use Rattle.std.specs.Ordering.{is_gt, is_lt, is_eq, eq_by_cmp, ordering_reverse}
use Rattle.std.specs.Cmp.{IsTotalOrder, tied_itself}
use Rattle.std.specs.FinMap.Entries.{put, find, by_order, is_sorted, below_all, where_key, is_sorted-where_key}
use Rattle.std.proofs.Common.{zero, ap, sym, subst, ◌∙◌}
use Rattle.ll_rights.specs.MapCodes.{same_list_map}
use Rattle.ll_rights.specs.Map.{Map, get, from_sorted, insert as map_insert, remove as map_remove}
use Rattle.ll_rights.proofs.Maps.{true_is, get-from_sorted, list-from_sorted, put_sorted, insert-from_sorted}

-- how many entries at the front have a smaller key
abbrev pub place : {K X : Type 0} → (K → K → Ordering) → K → List (K × X) → ℕ
place R k [] = 0
place R k (e ∷ es) = cond (is_gt (R k e.0)) (suc (place R k es)) 0

module _ {K X : Type 0} (R : K → K → Ordering) where
  pub put-place : (k : K) (v : X) (es : List (K × X)) → find R k es ≡ None
      → put R k v es ≡ insert es (place R k es) (k, v)
  put-place k v [] none = refl
  put-place k v (e ∷ es) none =
      elim (R k e.0) as (λ o. cond (is_eq o) (Some e.1) (find R k es) ≡ None
      → by_order o ((k, v) ∷ e ∷ es) ((e.0, v) ∷ es) (e ∷ put R k v es)
      ≡ insert (e ∷ es) (cond (is_gt o) (suc (place R k es)) 0) (k, v)) [
        | Less ↦ λ f. refl
        | Equal ↦ λ f. cc
        | Greater ↦ λ f. ap (λ fs. e ∷ fs) (put-place k v es f)
      ] none

module _ {K X : Type 0} {R : K → K → Ordering} (o : IsTotalOrder R) where
  -- an entry with a new key in its place
  pub added : (es fs : List (K × X)) (m : Map R X) (k : K) (v : X) (i : ℕ) → from_sorted es ≡ m → is_sorted R es ≡ true
      → get m k ≡ None → i ≡ place R k es → fs ≡ insert es i (k, v) → (is_sorted R fs ≡ true)
      × (from_sorted fs ≡ map_insert m k v)
  added es fs m k v i is s absent at new =
      let none : find R k es ≡ None = sym (get-from_sorted R es k s) ∙ ap (λ n. get n k) is ∙ absent in
      let whole : fs ≡ put R k v es = new ∙ ap (λ j. insert es j (k, v)) at ∙ sym (put-place R k v es none) in (
        ap (is_sorted R) whole ∙ put_sorted o k v es s,
        ap (λ gs. from_sorted {R = R} gs) whole
            ∙ sym (insert-from_sorted o es k v s) ∙ ap (λ n. map_insert n k v) is,
      )

-- ---- an entry less

lesser : (a b : Bool) → T (a && b) → T a × T b
lesser true b h = (tt, h)
lesser false b h = absurd h

is_less : (r : Ordering) → T (is_lt r) → r ≡ Less
is_less Less h = refl
is_less Equal h = absurd h
is_less Greater h = absurd h

module _ {K X : Type 0} {R : K → K → Ordering} (o : IsTotalOrder R) where
  all_stay : (k : K) (es : List (K × X)) → T (below_all R k es) → where_key R (λ q. not (eq_by_cmp R k q)) es ≡ es
  all_stay k [] h = refl
  all_stay k (e ∷ es) h =
      let parts = lesser (is_lt (R k e.0)) (below_all R k es) h in
      ap (λ r. cond (not (is_eq r)) (e ∷ where_key R (λ q. not (eq_by_cmp R k q)) es)
      (where_key R (λ q. not (eq_by_cmp R k q)) es)) (is_less (R k e.0) parts.0)
      ∙ ap (λ fs. e ∷ fs) (all_stay k es parts.1)

  below_at : (x : K) (es : List (K × X)) (i : ℕ) (k : K) (v : X) → T (below_all R x es) → slice_get es i ≡ Some (k, v)
      → R x k ≡ Less
  below_at x [] i k v h at = cc
  below_at x (e ∷ es) zero k v h at = let same : e ≡ (k, v) = cc in
      ap (λ (f : K × X). R x f.0) (sym same) ∙ is_less (R x e.0) (lesser (is_lt (R x e.0)) (below_all R x es) h).0
  below_at x (e ∷ es) (suc i) k v h at = below_at x es i k v (lesser (is_lt (R x e.0)) (below_all R x es) h).1 at

  left_without : (k : K) (v : X) (es : List (K × X)) (i : ℕ) → T (is_sorted R es) → slice_get es i ≡ Some (k, v)
      → remove_at es i ≡ where_key R (λ q. not (eq_by_cmp R k q)) es
  left_without k v [] i h at = cc
  left_without k v (e ∷ es) zero h at =
      let same : e ≡ (k, v) = cc in
      let parts = lesser (below_all R e.0 es) (is_sorted R es) h in
      let tied : R k e.0 ≡ Equal = ap (λ (f : K × X). R k f.0) same ∙ tied_itself o k in
      sym (all_stay k es (subst (λ (f : K × X). T (below_all R f.0 es)) same parts.0))
      ∙ sym (ap (λ r. cond (not (is_eq r)) (e ∷ where_key R (λ q. not (eq_by_cmp R k q)) es)
      (where_key R (λ q. not (eq_by_cmp R k q)) es)) tied)
  left_without k v (e ∷ es) (suc i) h at =
      let parts = lesser (below_all R e.0 es) (is_sorted R es) h in
      let after : R k e.0 ≡ Greater = o.antisymm k e.0 ∙ ap ordering_reverse (below_at e.0 es i k v parts.0 at) in
      ap (λ fs. e ∷ fs) (left_without k v es i parts.1 at)
      ∙ sym (ap (λ r. cond (not (is_eq r)) (e ∷ where_key R (λ q. not (eq_by_cmp R k q)) es)
      (where_key R (λ q. not (eq_by_cmp R k q)) es)) after)

  -- the entry of a key taken out of its place
  pub taken : (es fs : List (K × X)) (m : Map R X) (k : K) (v : X) (i : ℕ) → from_sorted es ≡ m → is_sorted R es ≡ true
      → slice_get es i ≡ Some (k, v) → fs ≡ remove_at es i → (is_sorted R fs ≡ true) × (from_sorted fs ≡ map_remove m k)
  unfolding map_remove
  taken es fs m k v i is s at new =
      let passes : K → Bool = λ q. not (eq_by_cmp R k q) in
      let whole : fs ≡ where_key R passes es = new ∙ left_without k v es i (subst T (sym s) tt) at in
      let sorted : is_sorted R fs ≡ true =
      ap (is_sorted R) whole ∙ true_is _ (is_sorted-where_key R passes es (subst T (sym s) tt)) in (
        sorted,
        same_list_map _ _ (list-from_sorted R fs sorted ∙ whole
            ∙ ap (where_key R passes) (sym (list-from_sorted R es s) ∙ ap (λ (n : Map R X). n.list) is)),
      )

  -- ---- another value at a key that is there

  put_over : (k : K) (v w : X) (es : List (K × X)) (i : ℕ) → T (is_sorted R es) → slice_get es i ≡ Some (k, v)
      → put R k w es ≡ slice_set es i (k, w)
  put_over k v w [] i h at = cc
  put_over k v w (e ∷ es) zero h at =
      let same : e ≡ (k, v) = cc in
      ap (λ r. by_order r ((k, w) ∷ e ∷ es) ((e.0, w) ∷ es) (e ∷ put R k w es)) (ap (λ (f : K × X). R k f.0) same
      ∙ tied_itself o k)
      ∙ ap (λ (f : K × X). (f.0, w) ∷ es) same
  put_over k v w (e ∷ es) (suc i) h at =
      let parts = lesser (below_all R e.0 es) (is_sorted R es) h in
      let after : R k e.0 ≡ Greater = o.antisymm k e.0 ∙ ap ordering_reverse (below_at e.0 es i k v parts.0 at) in
      ap (λ r. by_order r ((k, w) ∷ e ∷ es) ((e.0, w) ∷ es) (e ∷ put R k w es)) after
      ∙ ap (λ fs. e ∷ fs) (put_over k v w es i parts.1 at)

  -- the entry of a key with another value in its place
  pub replaced : (es fs : List (K × X)) (m : Map R X) (k : K) (v w : X) (i : ℕ) → from_sorted es ≡ m
      → is_sorted R es ≡ true → slice_get es i ≡ Some (k, v) → fs ≡ slice_set es i (k, w) → (is_sorted R fs ≡ true)
      × (from_sorted fs ≡ map_insert m k w)
  replaced es fs m k v w i is s at new =
      let whole : fs ≡ put R k w es = new ∙ sym (put_over k v w es i (subst T (sym s) tt) at) in (
        ap (is_sorted R) whole ∙ put_sorted o k w es s,
        ap (λ gs. from_sorted {R = R} gs) whole
            ∙ sym (insert-from_sorted o es k w s) ∙ ap (λ n. map_insert n k w) is,
      )
