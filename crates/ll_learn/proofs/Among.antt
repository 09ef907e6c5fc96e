-- Sites that are among others.
use Rattle.std.proofs.Common.{◌≡◌, ◌≤◌, ◌+◌, ◌||◌, ℕ, zero, suc, Bool, true, false, List, [], ◌∷◌, ◌++◌, Some, ap}
use Rattle.std.proofs.Common.{◌∙◌, arith, cond, refl, subst, sym, rules}
use Rattle.std.specs.List.{count_by, list_any}
use Rattle.std.proofs.lemmas.Bool.{eqb-true}
use Rattle.std.proofs.lemmas.List.Sums.{sum_by-cons}
use Rattle.std.specs.Prelude.{slice_get}
use Rattle.std.proofs.lemmas.List.Elements.{All-push}
use Rattle.ll_seq.specs.State.{State, root}
use Rattle.ll_seq.specs.Tree.{named}
use Rattle.ll_learn.specs.declared.site.Site.{Site}
use Rattle.ll_learn.specs.declared.site.Sites.{Sites}
use Rattle.ll_learn.specs.Sites.{AreSites, IsSite, IsSpelt, is_of, may_grant}
use Rattle.ll_learn.proofs.Given.{counted}
use Rattle.ll_learn.proofs.SpeltPaths.{spelt_root}

-- an element in front
pub get_front : {A : Type 0} (xs ys : List A) (i : ℕ) (x : A) → slice_get xs i ≡ Some x
    → slice_get (xs ++ ys) i ≡ Some x
get_front [] ys i x e = absurd cc
get_front (y ∷ xs) ys zero x e = e
get_front (y ∷ xs) ys (suc i) x e = get_front xs ys i x e

-- none is counted where none passes
none_passes : {A : Type 0} (p : A → Bool) (xs : List A) → list_any p xs ≡ false → count_by p xs ≡ 0
none_passes p [] none = refl
none_passes {A} p (x ∷ xs) none = sum_by-cons (λ y. cond (p y) 1 0) x xs ∙ by (p x) none (none_passes p xs)
  where
    by : (b : Bool) → (b || list_any p xs) ≡ false → (list_any p xs ≡ false → count_by p xs ≡ 0)
        → cond b 1 0 + count_by p xs ≡ 0
    by true e rest = absurd (cc e)
    by false e rest = let none_there = rest e in omega (arith, none_there)

none_counted : (sites : List Site) (here inode : ℕ) → here ≡ inode → list_any (is_of here) sites ≡ false
    → count_by (is_of inode) sites ≡ 0
none_counted sites here inode same none =
    none_passes (is_of inode) sites (subst (λ n. list_any (is_of n) sites ≡ false) same none)

-- at most one, where the others are none
one_more_of : {A : Type 0} (p : A → Bool) (xs : List A) (x : A) → count_by p xs ≤ 1
    → (p x ≡ true → count_by p xs ≡ 0) → count_by p (xs ++ x ∷ []) ≤ 1
one_more_of {A} p xs x most none = rw (counted p xs x) (by (p x) refl)
  where
    by : (b : Bool) → p x ≡ b → count_by p xs + cond b 1 0 ≤ 1
    by true is = let zero_of = none is in omega arith
    by false is = omega arith

-- one site more
pub more_sites : (s : State) (all : ℕ) (old new : Sites) (site : Site) → AreSites s all old → IsSite s all site
    → list_any (is_of site.inode) old.rows.items ≡ false → new.rows.items ≡ old.rows.items ++ site ∷ []
    → AreSites s all new
more_sites s all old new site are is others e = record {
  each = rw e (All-push (IsSite s all) old.rows.items site are.each is);
  top = let top = are.top in (
    top.0,
    (top.1.0, ap (λ l. slice_get l top.1.0) e ∙ get_front old.rows.items (site ∷ []) top.1.0 top.0 top.1.1),
    top.2,
    top.3,
  );
  once = λ inode. rw e (one_more_of (is_of inode) old.rows.items site (are.once inode)
      (λ own. none_counted old.rows.items site.inode inode (eqb-true site.inode inode own) others));
}

-- the root alone
pub one_site : (s : State) (all : ℕ) (sites : Sites) (site : Site) → site.path ≡ [] → site.inode ≡ root
    → site.may.0 ≡ all → sites.rows.items ≡ site ∷ [] → AreSites s all sites
one_site s all sites site path inode may e =
    let is : IsSite s all site = record {
      spelt = subst IsSpelt (sym path) spelt_root;
      named = ap (named s) path ∙ ap Some (sym inode);
      may = may ∙ sym (ap (may_grant s all) inode);
    } in
    record {
      each = rw e (All-push (IsSite s all) [] site (search rules) is);
      top = (site, (0, ap (λ l. slice_get l 0) e), inode, may);
      once = λ other. rw e (one_more_of (is_of other) [] site (search rules) (λ own. refl));
    }
