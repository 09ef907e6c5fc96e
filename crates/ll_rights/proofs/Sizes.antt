-- How many entries a map has.
use Rattle.std.specs.Prelude.{◌≡◌, ℕ, ◌+◌, Bool, true, false, cond, T, ◌&&◌, List, [], ◌∷◌, map, length, Option, Some}
use Rattle.std.specs.Prelude.{None}
use Rattle.std.specs.Prelude.{is_some, option_map, refl}
use Rattle.std.specs.declared.cmp.Ordering.{Ordering}
use Rattle.std.specs.Ordering.{nat_cmp, is_lt, eq_by_cmp}
use Rattle.std.specs.Cmp.{nat_cmp_total}
use Rattle.std.specs.FinMap.{nat_cmp-IsAntisymmetric}
use Rattle.std.specs.FinMap.Entries.{put, find, is_sorted, is_sorted-put, length-put, below_all, same_entries}
use Rattle.std.proofs.Common.{sym, subst, ap, ◌∙◌, inl, inr}
use Rattle.std.proofs.lemmas.List.{length-map}
use Rattle.ll_rights.specs.Map.{Map, checked, empty, get, has, insert, remove, entries, len}
use Rattle.ll_rights.proofs.Maps.{got_left, insert_cases, get-remove_other, list_checked}

module _ {K X Y : Type 0} (R : K → K → Ordering) (f : X → Y) where
  abbrev mapped : List (K × X) → List (K × Y)
  mapped es = map (λ (e : K × X). (e.0, f e.1)) es

  below_mapped : (k : K) (es : List (K × X)) → below_all R k (mapped es) ≡ below_all R k es
  below_mapped k [] = refl
  below_mapped k (e ∷ es) = ap (λ b. is_lt (R k e.0) && b) (below_mapped k es)

  sorted_mapped : (es : List (K × X)) → is_sorted R (mapped es) ≡ is_sorted R es
  sorted_mapped [] = refl
  sorted_mapped (e ∷ es) = (λ i. below_mapped e.0 es i && is_sorted R (mapped es))
      ∙ ap (λ b. below_all R e.0 es && b) (sorted_mapped es)

  find_mapped : (q : K) (es : List (K × X)) → find R q (mapped es) ≡ option_map f (find R q es)
  find_mapped q [] = refl
  find_mapped q (e ∷ es) = elim (eq_by_cmp R q e.0) as
      (λ b. cond b (Some (f e.1)) (find R q (mapped es)) ≡ option_map f (cond b (Some e.1) (find R q es)))
      [ true ↦ refl | false ↦ find_mapped q es ]

  length_mapped : (es : List (K × X)) → length (mapped es) ≡ length es
  length_mapped es = length-map es (λ (e : K × X). (e.0, f e.1))

-- maps that answer alike, by what is told of their values, have as many entries
pub same_len : {X Y Z : Type 0} (m : Map nat_cmp X) (n : Map nat_cmp Y) (f : X → Z) (g : Y → Z)
    → ((q : ℕ) → option_map f (get m q) ≡ option_map g (get n q)) → len m ≡ len n
unfolding get entries
same_len m n f g same =
    sym (length_mapped nat_cmp f m.list)
    ∙ ap length (same_entries nat_cmp nat_cmp_total nat_cmp-IsAntisymmetric (mapped nat_cmp f m.list)
    (mapped nat_cmp g n.list)
    (subst T (sym (sorted_mapped nat_cmp f m.list)) m.sorted) (subst T (sym (sorted_mapped nat_cmp g n.list)) n.sorted)
    (λ q. find_mapped nat_cmp f q m.list ∙ same q ∙ sym (find_mapped nat_cmp g q n.list)))
    ∙ length_mapped nat_cmp g n.list

-- ---- one more, one less

pub len-insert : {X : Type 0} (m : Map nat_cmp X) (k : ℕ) (x : X)
    → len (insert m k x) ≡ cond (has m k) (len m) (len m + 1)
unfolding get insert entries
len-insert m k x =
    ap length (list_checked (put nat_cmp k x m.list) (is_sorted nat_cmp (put nat_cmp k x m.list)) refl m
    (is_sorted-put nat_cmp nat_cmp_total k x m.list m.sorted))
    ∙ length-put nat_cmp nat_cmp_total k x m.list m.sorted

pub one_comes : {X : Type 0} (m : Map nat_cmp X) (k : ℕ) (x : X) → get m k ≡ None → len (insert m k x) ≡ len m + 1
one_comes m k x none = len-insert m k x ∙ ap (λ o. cond (is_some o) (len m) (len m + 1)) none

-- what is put back gives the map again
pub one_goes : {X : Type 0} (m : Map nat_cmp X) (k : ℕ) (x : X) → get m k ≡ Some x → len (remove m k) + 1 ≡ len m
one_goes {X} m k x there =
    sym (one_comes (remove m k) k x (none (get (remove m k) k) refl))
    ∙ same_len (insert (remove m k) k x) m (λ (y : X). y) (λ (y : X). y) (λ q. ap (option_map (λ (y : X). y)) (back q))
  where
    none : (o : Option X) → get (remove m k) k ≡ o → get (remove m k) k ≡ None
    none None e = e
    none (Some y) e = absurd ((got_left nat_cmp_total nat_cmp-IsAntisymmetric m k k y e).1 refl)

    back : (q : ℕ) → get (insert (remove m k) k x) q ≡ get m q
    back q = elim (insert_cases nat_cmp_total nat_cmp-IsAntisymmetric (remove m k) k x q) [
      | inl here ↦ here.1 ∙ sym (ap (get m) here.0 ∙ there)
      | inr away ↦ away.1 ∙ get-remove_other nat_cmp_total nat_cmp-IsAntisymmetric m k q away.0
    ]

pub len-empty : (X : Type 0) → len {X = X} {R = nat_cmp} empty ≡ 0
unfolding empty entries
len-empty X = refl
