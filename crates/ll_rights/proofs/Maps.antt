-- What `get` answers after a change of a finite map, and maps that are kept as their entries in order.
use Rattle.std.specs.Prelude.{◌≡◌, ◌≢◌, ◌⊎◌, Bool, true, false, cond, not, T, List, [], Some, None, refl}
use Rattle.std.specs.declared.cmp.Ordering.{Ordering}
use Rattle.std.specs.declared.cmp.Ordering.TheVariants.{Less, Equal, Greater}
use Rattle.std.specs.Ordering.{eq_by_cmp, is_eq}
use Rattle.std.specs.Cmp.{IsTotalOrder, alike_right, eq_by_cmp_equiv, tied_itself}
use Rattle.std.specs.FinMap.{IsAntisymmetric}
use Rattle.std.specs.FinMap.Entries.{put, find, is_sorted, is_sorted-put, find-put, find-where_key, same_entries}
use Rattle.std.proofs.Common.{sym, subst, ap, ◌∙◌, inl, inr}
use Rattle.ll_rights.specs.MapCodes.{same_list_map}
use Rattle.ll_rights.specs.Map.{Map, empty, checked, get, insert, remove, entries, from_sorted}

pub true_is : (b : Bool) → T b → b ≡ true
true_is true t = refl
true_is false t = absurd t

pub equal_at : (r : Ordering) → is_eq r ≡ true → r ≡ Equal
equal_at Less e = cc
equal_at Equal e = refl
equal_at Greater e = cc

pub get-empty : {K : Type 0} (X : Type 0) (R : K → K → Ordering) (q : K) → get (empty {X = X} {R = R}) q ≡ None
unfolding get empty
get-empty X R q = refl

turned : {A : Type 0} (b : Bool) (x y : A) → cond (not b) x y ≡ cond b y x
turned true x y = refl
turned false x y = refl

module _ {K : Type 0} {R : K → K → Ordering} (o : IsTotalOrder R) (exact : IsAntisymmetric R) where
  itself : (k : K) → eq_by_cmp R k k ≡ true
  itself k = ap is_eq (tied_itself o k)

  other : (q k : K) → q ≢ k → eq_by_cmp R q k ≡ false
  other q k n = elim (eq_by_cmp R q k) as (λ b. eq_by_cmp R q k ≡ b → b ≡ false)
      [ true ↦ λ e. absurd (n (exact q k (equal_at _ e))) | false ↦ λ e. refl ] refl

module _ {K X : Type 0} {R : K → K → Ordering} where
  pub list_checked : (es : List (K × X)) (b : Bool) (e : is_sorted R es ≡ b) (m : Map R X) → T b
      → (checked es b e m).list ≡ es
  unfolding checked
  list_checked es true e m h = refl
  list_checked es false e m h = absurd h

module _ {K X : Type 0} {R : K → K → Ordering} (o : IsTotalOrder R) (exact : IsAntisymmetric R) where
  pub get-insert : (m : Map R X) (k : K) (x : X) (q : K)
      → get (insert m k x) q ≡ cond (eq_by_cmp R q k) (Some x) (get m q)
  unfolding get insert
  get-insert m k x q = ap (find R q)
      (list_checked (put R k x m.list) (is_sorted R (put R k x m.list)) refl m (is_sorted-put R o k x m.list m.sorted))
      ∙ find-put R o q k x m.list

  pub get-remove : (m : Map R X) (k q : K) → get (remove m k) q ≡ cond (eq_by_cmp R q k) None (get m q)
  unfolding get remove
  get-remove m k q =
      find-where_key R (λ x. not (eq_by_cmp R k x)) q (λ x t. ap (λ r. not (is_eq r)) (sym (alike_right o q x k t)))
      m.list
      ∙ turned (eq_by_cmp R k q) _ _ ∙ ap (λ b. cond b None (get m q)) ((eq_by_cmp_equiv o).symm k q)

  pub get-insert_same : (m : Map R X) (k : K) (x : X) → get (insert m k x) k ≡ Some x
  get-insert_same m k x = get-insert m k x k ∙ ap (λ b. cond b (Some x) (get m k)) (itself o exact k)

  pub get-insert_other : (m : Map R X) (k : K) (x : X) (q : K) → q ≢ k → get (insert m k x) q ≡ get m q
  get-insert_other m k x q n = get-insert m k x q ∙ ap (λ b. cond b (Some x) (get m q)) (other o exact q k n)

  pub get-remove_other : (m : Map R X) (k q : K) → q ≢ k → get (remove m k) q ≡ get m q
  get-remove_other m k q n = get-remove m k q ∙ ap (λ b. cond b None (get m q)) (other o exact q k n)

  pub insert_cases : (m : Map R X) (k : K) (x : X) (q : K) → ((q ≡ k) × (get (insert m k x) q ≡ Some x))
      ⊎ ((q ≢ k) × (get (insert m k x) q ≡ get m q))
  insert_cases m k x q =
      elim (eq_by_cmp R q k) as (λ b. eq_by_cmp R q k ≡ b → ((q ≡ k) × (get (insert m k x) q ≡ Some x))
      ⊎ ((q ≢ k) × (get (insert m k x) q ≡ get m q))) [
        | true ↦ λ t. inl (exact q k (equal_at _ t), get-insert m k x q ∙ ap (λ b. cond b (Some x) (get m q)) t)
        | false ↦ λ t. inr (
          λ s. absurd (cc (sym (itself o exact k) ∙ ap (λ z. eq_by_cmp R z k) (sym s) ∙ t)),
          get-insert m k x q ∙ ap (λ b. cond b (Some x) (get m q)) t,
        )
      ] refl

  -- what is found is what was put there, or was there before
  pub got_inserted : (m : Map R X) (k : K) (x : X) (q : K) (y : X) → get (insert m k x) q ≡ Some y → ((q ≡ k) × (y ≡ x))
      ⊎ (get m q ≡ Some y)
  got_inserted m k x q y e =
      elim (eq_by_cmp R q k) as (λ b. eq_by_cmp R q k ≡ b → cond b (Some x) (get m q) ≡ Some y → ((q ≡ k) × (y ≡ x))
      ⊎ (get m q ≡ Some y)) [
        | true ↦ λ t f. inl (exact q k (equal_at _ t), cc)
        | false ↦ λ t f. inr f
      ] refl (sym (get-insert m k x q) ∙ e)

  pub got_left : (m : Map R X) (k q : K) (y : X) → get (remove m k) q ≡ Some y → (get m q ≡ Some y) × (q ≢ k)
  got_left m k q y e =
      elim (eq_by_cmp R q k) as (λ b. eq_by_cmp R q k ≡ b → cond b None (get m q) ≡ Some y → (get m q ≡ Some y)
      × (q ≢ k)) [
        | true ↦ λ t f. absurd (cc f)
        | false ↦ λ t f. (f, λ s. absurd (cc (sym (itself o exact k) ∙ ap (λ z. eq_by_cmp R z k) (sym s) ∙ t)))
      ] refl (sym (get-remove m k q) ∙ e)

  pub same_map : (m n : Map R X) → ((q : K) → get m q ≡ get n q) → m.list ≡ n.list
  unfolding get
  same_map m n same = same_entries R o exact m.list n.list m.sorted n.sorted same

-- ---- maps that are kept as their entries in order

module _ {K X : Type 0} (R : K → K → Ordering) where
  pub list-from_sorted : (es : List (K × X)) → is_sorted R es ≡ true → (from_sorted {R = R} es).list ≡ es
  unfolding from_sorted
  list-from_sorted es s = list_checked es (is_sorted R es) refl empty (subst T (sym s) tt)

  pub get-from_sorted : (es : List (K × X)) (q : K) → is_sorted R es ≡ true
      → get (from_sorted {R = R} es) q ≡ find R q es
  unfolding get
  get-from_sorted es q s = ap (find R q) (list-from_sorted es s)

  pub entries-from_sorted : (es : List (K × X)) → is_sorted R es ≡ true → entries (from_sorted {R = R} es) ≡ es
  unfolding entries
  entries-from_sorted es s = list-from_sorted es s

module _ {K X : Type 0} {R : K → K → Ordering} (o : IsTotalOrder R) where
  pub put_sorted : (k : K) (x : X) (es : List (K × X)) → is_sorted R es ≡ true → is_sorted R (put R k x es) ≡ true
  put_sorted k x es s = true_is (is_sorted R (put R k x es)) (is_sorted-put R o k x es (subst T (sym s) tt))

  pub insert-from_sorted : (es : List (K × X)) (k : K) (x : X) → is_sorted R es ≡ true
      → insert (from_sorted {R = R} es) k x ≡ from_sorted (put R k x es)
  unfolding insert
  insert-from_sorted es k x s =
      same_list_map _ _
      (list_checked _ _ refl (from_sorted es)
      (is_sorted-put R o k x (from_sorted {R = R} es).list (from_sorted {R = R} es).sorted)
      ∙ ap (put R k x) (list-from_sorted R es s)
      ∙ sym (list-from_sorted R (put R k x es) (put_sorted k x es s)))

pub from_sorted-empty : {K : Type 0} (X : Type 0) (R : K → K → Ordering) → from_sorted {X = X} {R = R} [] ≡ empty
unfolding from_sorted checked empty
from_sorted-empty X R = refl
