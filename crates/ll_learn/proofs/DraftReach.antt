-- Each right of a charged draft is due.
use Rattle.std.specs.Prelude.{◌≡◌, ◌⊎◌, ◌<◌, ℕ, suc, Bool, true, false, ◌&&◌, ◌||◌, ◌==◌, List, [], ◌∷◌, ◌++◌}
use Rattle.std.specs.Prelude.{Option, None, Some, Contains, if◌then◌else◌, refl}
use Rattle.std.specs.List.{list_any}
use Rattle.std.specs.Option.{option_or}
use Rattle.std.proofs.Common.{sym, subst, ap, ◌∙◌, inl, inr, arith}
use Rattle.std.proofs.lemmas.Bool.{eqb-true}
use Rattle.std.proofs.lemmas.List.Elements.{All-contains}
use Rattle.ll_rights.specs.Access.{holds}
use Rattle.ll_rights.specs.Right.{refer}
use Rattle.ll_rules.specs.Layer.{Layer, grants_on, has_rule}
use Rattle.ll_seq.proofs.Parted.{or_split}
use Rattle.ll_learn.specs.declared.draft.Draft.{Draft}
use Rattle.ll_learn.specs.declared.draft.Scope.{Scope}
use Rattle.ll_learn.specs.declared.needs.Asked.{Asked}
use Rattle.ll_learn.specs.declared.needs.Needs.{Needs}
use Rattle.ll_learn.specs.Bound.{AreDue, IsDue, IsRequired, Part}
use Rattle.ll_learn.specs.Charges.{AreNeedsOf, DraftIsLeast, WereInOne}
use Rattle.ll_learn.specs.Draft.{IsCharged, IsInScope, IsOf, is_charge, is_some_at, last_of, may_have}
use Rattle.ll_learn.specs.Needs.{IsGranted}
use Rattle.ll_learn.proofs.LeastReach.{charged_is_least}

both : (a b : Bool) → (a && b) ≡ true → (a ≡ true) × (b ≡ true)
both true b e = (refl, e)
both false b e = absurd (cc e)

-- one that passes the test
pub one_that : {A : Type 0} (f : A → Bool) (xs : List A) → list_any f xs ≡ true → (x : A) × Contains xs x × (f x ≡ true)
one_that f [] e = absurd (cc e)
one_that f (x ∷ xs) e = by (or_split (f x) (list_any f xs) e) (one_that f xs)
  where
    by : (f x ≡ true) ⊎ (list_any f xs ≡ true)
        → (list_any f xs ≡ true → (y : _) × Contains xs y × (f y ≡ true))
        → (y : _) × Contains (x ∷ xs) y × (f y ≡ true)
    by (inl a) rest = (x, (0, omega arith, refl), a)
    by (inr a) rest = let w = rest a in (w.0, (suc w.1.0, omega arith, w.1.2), w.2)

-- the path, cut at the last inode that passes the test
pub record CutAt (may : ℕ → Bool) (inode : ℕ) (inodes : List ℕ) : Type 0 where
  pub front : List ℕ
  pub behind : List ℕ
  pub parts : inodes ≡ front ++ inode ∷ behind
  pub last : list_any may behind ≡ false

none_last : (may : ℕ → Bool) (xs : List ℕ) → last_of may xs ≡ None → list_any may xs ≡ false
none_last may [] e = refl
none_last may (x ∷ xs) e = by (last_of may xs) (may x) e (none_last may xs)
  where
    by : (o : Option ℕ) (b : Bool) → option_or o (if b then Some x else None) ≡ None
        → (o ≡ None → list_any may xs ≡ false) → (b || list_any may xs) ≡ false
    by (Some y) b e rest = absurd (cc e)
    by None true e rest = absurd (cc e)
    by None false e rest = rest refl

pub cut_last : (may : ℕ → Bool) (inode : ℕ) (xs : List ℕ) → is_some_at (last_of may xs) inode ≡ true
    → CutAt may inode xs
cut_last may inode [] e = absurd (cc e)
cut_last may inode (x ∷ xs) e = by (last_of may xs) refl (may x) e (cut_last may inode xs)
  where
    by : (o : Option ℕ) → last_of may xs ≡ o → (b : Bool)
        → is_some_at (option_or o (if b then Some x else None)) inode ≡ true
        → (is_some_at (last_of may xs) inode ≡ true → CutAt may inode xs) → CutAt may inode (x ∷ xs)
    by (Some y) is b e rest =
        let w = rest (ap (λ o. is_some_at o inode) is ∙ e) in
        record { front = x ∷ w.front; behind = w.behind; parts = ap (λ ys. x ∷ ys) w.parts; last = w.last }
    by None is true e rest =
        record { front = []; behind = xs; parts = ap (λ y. y ∷ xs) (eqb-true x inode e); last = none_last may xs is }
    by None is false e rest = absurd (cc e)

module _ (parts : List Part) (needs : Needs) (of : AreNeedsOf parts needs) (scope : Scope) (draft : Draft)
    (charged : IsCharged scope needs draft) (least : Layer) (is : IsOf draft least)
    (within : IsInScope scope least) where
  is_due : (inode right : ℕ) → right < 15 → has_rule least right inode ≡ true
      → IsDue parts (may_have scope) inode right
  is_due inode right below ruled =
      let a = one_that (is_charge scope right inode) needs.asks.items
      (charged inode right below (sym (is.rules inode right below) ∙ ruled)) in
      let asked = both (holds a.0.rights.0 right) _ a.2 in
      let place = cut_last (may_have scope right) inode a.0.inodes.items asked.1 in
      let was = All-contains (λ (z : Asked). WereInOne parts z.inodes.items) needs.asks.items a.0 of.paths a.1 in
      record {
        front = place.front;
        behind = place.behind;
        required = subst (λ (zs : List ℕ). IsRequired parts zs right) place.parts (record {
          part = was.0;
          among = was.1;
          there = was.2;
          granted = λ layer allows. All-contains (IsGranted (grants_on layer)) needs.asks.items a.0
              (of.met layer allows).asks a.1 right below asked.0;
        });
        last = place.last;
      }

  are_due : AreDue parts (may_have scope) least
  are_due = record { within = λ inode right below ruled. within.rules inode right below ruled; due = is_due }

pub draft_is_least : DraftIsLeast
draft_is_least s parts begin needs of scope at_cut draft charged least is within layer other passes =
    charged_is_least s parts begin (may_have scope) at_cut least
    (are_due parts needs of scope draft charged least is within) layer
    (λ inode right below ruled. other.rules inode right below ruled) passes
    (λ right below held. ap (λ n. holds n right || (right == refer)) (within.handled ∙ sym other.handled) ∙ held)
