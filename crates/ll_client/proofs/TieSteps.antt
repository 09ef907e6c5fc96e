-- Each step keeps the rule.
use Rattle.std.proofs.Common.{◌≡◌, ◌≢◌, ℕ, List, [], ◌∷◌, set, Option, Some, None, true, false, refl, sym, ap, ◌∙◌}
use Rattle.std.proofs.Common.{subst, inl, inr}
use Rattle.std.specs.Cmp.{nat_cmp_total}
use Rattle.std.specs.Ordering.{nat_cmp}
use Rattle.std.specs.FinMap.{nat_cmp-IsAntisymmetric}
use Rattle.std.proofs.lemmas.List.{set_comm}
use mathlib.Core.Option.{some-ne-none}
use Rattle.atomic_table.specs.Table.{Me, keeps, Allows, Splits, Joins}
use Rattle.atomic_table.proofs.Lists.{at_set, set_else}
use Rattle.ll_rights.specs.Map.{Map, empty, get, insert, remove}
use Rattle.ll_rights.proofs.Maps.{get-insert_same, get-insert_other, get-remove_other}
use Rattle.ll_client.specs.Views.{Known, keeper, showing, spent, joined, without_entry, only_entry}
use Rattle.ll_client.specs.TieRule.{Agree, IsTied, TakesEntry, GivesEntry}
use Rattle.ll_client.proofs.TwoSeats.{At, Both, Fits, IsNow, tied_set, tied_more}

off : {A : Type 0} → false ≡ true → A
off e = absurd (cc e)

nothing : {A B : Type 0} (o : Option A) (x : A) → o ≡ None → o ≡ Some x → B
nothing o x is_none is_some = absurd (cc (is_none, is_some))

-- what a seat of the table sees of it
abbrev pub Sees : Type 0 → Type 0
Sees D = Me (Unit {0}) (Known D)

module _ {D : Type 0} where
  abbrev SameShown : ℕ × D → ℕ × D → Type 0
  SameShown d e = Some d ≡ Some e

  same_entry : (m n : ℕ) (x y : D) → SameShown (m, x) (n, y) → ◌≡◌ {A = ℕ × D} (m, x) (n, y)
  same_entry m n x y e = cc

  same_number : (m n : ℕ) (x y : D) → SameShown (m, x) (n, y) → m ≡ n
  same_number m n x y e = ap (λ entry. entry.0) (same_entry m n x y e)

  -- the seat may make a step that changes no word, and this comes of it
  abbrev pub MayStep : ℕ → ℕ → Sees D → (Sees D → Type 0) → Type 0
  MayStep slots by me then = Allows (λ s. IsTied s.views) slots by me 0 (λ n. n) (λ n after. then after)

  -- ---- A seat that shows nothing

  silent_alone : (i : ℕ) (w : Known D) → w.shows ≡ None → Agree i w i w
  silent_alone i w silent_is = record {
    one_keeper = λ _ _. refl;
    kept = λ k x _ shows. nothing _ _ silent_is shows;
    one_pass = λ k x y _ _. refl;
  }

  silent : (i : ℕ) (w : Known D) (j : ℕ) (u : Known D) → w.shows ≡ None → (w.keeps ≡ true → u.keeps ≡ true → i ≡ j)
      → ((k : ℕ) (x : D) → w.keeps ≡ true → u.shows ≡ Some (k, x) → get w.entries k ≡ Some x) → Both i w j u
  silent i w j u silent_is one_keeper kept = (
    record { one_keeper = one_keeper; kept = kept; one_pass = λ k x y shows _. nothing _ _ silent_is shows },
    record {
      one_keeper = λ keeps it_keeps. sym (one_keeper it_keeps keeps);
      kept = λ k x _ shows. nothing _ _ silent_is shows;
      one_pass = λ k x y _ shows. nothing _ _ silent_is shows;
    },
  )

  knows_nothing : (i j : ℕ) (u : Known D) → Both i spent j u
  knows_nothing i j u = silent i spent j u refl (λ keeps _. off keeps) (λ k x keeps _. off keeps)

  pub begins : IsTied {D = D} (keeper empty ∷ [])
  begins =
      tied_more [] (keeper empty) (λ i j u v at_i at_j. absurd (some-ne-none u (sym at_i)))
      (silent_alone 0 (keeper empty) refl) (λ j u at_j. absurd (some-ne-none u (sym at_j)))

  -- ---- A pass is taken back

  -- The one of two seats shows what the other did. Where that one shows nothing any more, it agrees with all
  module _
      (views : List (Known D)) (by other : ℕ) (v u : Known D)
      (tied : IsTied views) (at : At views by v) (there : At views other u) where
    shows_other : Agree by (joined v u) by (joined v u)
    shows_other =
        record { one_keeper = λ _ _. refl; kept = (tied by other v u at there).kept; one_pass = λ k x y _ _. refl }

    beside_others : (j : ℕ) (w : Known D) → j ≢ by → j ≢ other → At views j w → Both by (joined v u) j w
    beside_others j w not_by not_other at_j =
        let one_pass = (tied j other w u at_j there).one_pass in (
          record {
            one_keeper = (tied by j v w at at_j).one_keeper;
            kept = (tied by j v w at at_j).kept;
            one_pass = λ k x y shows it_shows. absurd (not_other (one_pass k y x it_shows shows));
          },
          record {
            one_keeper = (tied j by w v at_j at).one_keeper;
            kept = (tied j other w u at_j there).kept;
            one_pass = λ k x y it_shows shows. absurd (not_other (one_pass k x y it_shows shows));
          },
        )

    beside_spent : (j : ℕ) (w : Known D) → j ≢ by → IsNow views other spent j w → Both by (joined v u) j w
    beside_spent j w not_by (inl x) =
        let both = knows_nothing j by (joined v u) in subst (Both by (joined v u) j) x.1 (both.1, both.0)
    beside_spent j w not_by (inr x) = beside_others j w not_by x.0 x.1

  pub joins : (by : ℕ) (v : Known D) (other : ℕ) (u : Known D)
      → Joins {S = Unit {0}} (λ s. IsTied s.views) by v other u (joined v u) spent
  joins by v other u s tied at differs there' =
      let views : List (Known D) = s.views in
      let there : At views other u = sym (set_else views by other (joined v u) differs) ∙ there' in
      let emptied : Fits views other spent =
      ((knows_nothing other other spent).0, λ j w _ _. knows_nothing other j w) in
      let agrees : Fits (set views other spent) by (joined v u) = (
        shows_other views by other v u tied at there,
        λ j w not_by at_j.
            beside_spent views by other v u tied at there j w not_by (at_set views other j spent w at_j),
      ) in
      subst IsTied (set_comm views other by spent (joined v u) differs)
      (tied_set (set views other spent) by (joined v u) (tied_set views other spent tied emptied) agrees)

  -- the keeper, showing an entry
  abbrev pub with_pass : Map nat_cmp D → ℕ × D → Sees D
  with_pass entries entry = (showing entries entry, [])

  -- the keeper
  abbrev pub by_itself : Map nat_cmp D → Sees D
  by_itself entries = (keeper entries, [])

  module _
      (views : List (Known D)) (by number : ℕ) (x : D) (entries : Map nat_cmp D)
      (tied : IsTied views) (at : At views by (showing entries (number, x))) where
    of_keeper : (j : ℕ) (u : Known D) → At views j u → Agree by (showing entries (number, x)) j u
    of_keeper j u at_j = tied by j (showing entries (number, x)) u at at_j

    other_number : (j : ℕ) (u : Known D) (k : ℕ) (y : D) → j ≢ by → At views j u → u.shows ≡ Some (k, y) → k ≢ number
    other_number j u k y not_by at_j shows same =
        not_by (sym ((of_keeper j u at_j).one_pass number x y refl (shows ∙ ap (λ n. Some (n, y)) same)))

    others_stay : (j : ℕ) (u : Known D) (k : ℕ) (y : D) → j ≢ by → At views j u → u.shows ≡ Some (k, y)
        → get (remove entries number) k ≡ Some y
    others_stay j u k y not_by at_j shows =
        let another = other_number j u k y not_by at_j shows in
        get-remove_other nat_cmp_total nat_cmp-IsAntisymmetric entries number k another
        ∙ (of_keeper j u at_j).kept k y refl shows

    entry_gone : Fits views by (keeper (remove entries number))
    entry_gone = (
      silent_alone by (keeper (remove entries number)) refl,
      λ j u not_by at_j. silent by (keeper (remove entries number)) j u refl (of_keeper j u at_j).one_keeper
          (λ k y _ shows. others_stay j u k y not_by at_j shows),
    )

  pub takes_back : (slots by number : ℕ) (x : D) (entries : Map nat_cmp D)
      → MayStep slots by (with_pass entries (number, x)) (TakesEntry (with_pass entries (number, x)))
  takes_back slots by number x entries s tied long at small = (
    keeper (remove entries number),
    keeps,
    tt,
    tied_set s.views by _ tied (entry_gone s.views by number x entries tied at),
    λ k y shows. (
      (of_keeper s.views by number x entries tied at by (showing entries (number, x)) at).kept k y refl shows,
      ap (λ n. by_itself (remove entries n)) (same_number number k x y shows),
    ),
  )

  -- ---- A pass is given out

  -- the keeper's entry of a number is what is shown under it
  is_kept : (views : List (Known D)) (by : ℕ) (entries : Map nat_cmp D) → IsTied views → At views by (keeper entries)
      → (j : ℕ) (u : Known D) (k : ℕ) (y : D) → At views j u → u.shows ≡ Some (k, y) → get entries k ≡ Some y
  is_kept views by entries tied at j u k y at_j shows = (tied by j (keeper entries) u at at_j).kept k y refl shows

  module _
      (views : List (Known D)) (by number : ℕ) (x : D) (entries : Map nat_cmp D)
      (tied : IsTied views) (at : At views by (keeper entries)) (free : get entries number ≡ None) where
    new_number : (j : ℕ) (u : Known D) (k : ℕ) (y : D) → At views j u → u.shows ≡ Some (k, y) → k ≢ number
    new_number j u k y at_j shows same =
        nothing _ y (ap (get entries) same ∙ free) (is_kept views by entries tied at j u k y at_j shows)

    new_entry : Fits views by (showing (insert entries number x) (number, x))
    new_entry = (
      record {
        one_keeper = λ _ _. refl;
        kept = λ k y _ shows.
            subst (λ (e : ℕ × D). get (insert entries number x) e.0 ≡ Some e.1) (same_entry number k x y shows)
            (get-insert_same nat_cmp_total nat_cmp-IsAntisymmetric entries number x);
        one_pass = λ k y z _ _. refl;
      },
      λ j u not_by at_j. (
        record {
          one_keeper = (tied by j (keeper entries) u at at_j).one_keeper;
          kept = λ k y _ shows.
              get-insert_other nat_cmp_total nat_cmp-IsAntisymmetric entries number x k (new_number j u k y at_j shows)
              ∙ is_kept views by entries tied at j u k y at_j shows;
          one_pass = λ k y z mine its. absurd (new_number j u k z at_j its (sym (same_number number k x y mine)));
        },
        record {
          one_keeper = (tied j by u (keeper entries) at_j at).one_keeper;
          kept = λ k y its_keeps _. absurd (not_by ((tied j by u (keeper entries) at_j at).one_keeper its_keeps refl));
          one_pass = λ k y z its mine. absurd (new_number j u k y at_j its (sym (same_number number k x z mine)));
        },
      ),
    )

  pub gives_out : (slots by number : ℕ) (x : D) (entries : Map nat_cmp D) → get entries number ≡ None
      → MayStep slots by (by_itself entries) (GivesEntry number x (by_itself entries))
  gives_out slots by number x entries free s tied long at small = (
    showing (insert entries number x) (number, x),
    keeps,
    tt,
    tied_set s.views by _ tied (new_entry s.views by number x entries tied at free),
    refl,
  )

  -- What the seat showed the new one shows, and no other
  module _ (views : List (Known D)) (by : ℕ) (v : Known D) (tied : IsTied views) (at : At views by v) where
    emptied : Fits views by (without_entry v)
    emptied = (
      silent_alone by (without_entry v) refl,
      λ j u not_by at_j.
          let agree = tied by j v u at at_j in silent by (without_entry v) j u refl agree.one_keeper agree.kept,
    )

    -- it is kept there, if this is the keeper
    abbrev IsKept : Known D → Type 0
    IsKept u = (k : ℕ) (y : D) → u.keeps ≡ true → v.shows ≡ Some (k, y) → get u.entries k ≡ Some y

    still_kept : (j : ℕ) (u : Known D) → IsNow views by (without_entry v) j u → IsKept u
    still_kept j u (inl x) = subst IsKept x.1 (tied by by v v at at).kept
    still_kept j u (inr x) = (tied j by u v x.1 at).kept

    not_shown : (j : ℕ) (u : Known D) → IsNow views by (without_entry v) j u
        → (k : ℕ) (y z : D) → v.shows ≡ Some (k, y) → u.shows ≡ Some (k, z) → ⊥
    not_shown j u (inl x) k y z mine its = nothing _ _ (ap (λ (w : Known D). w.shows) (sym x.1)) its
    not_shown j u (inr x) k y z mine its = x.0 (sym ((tied by j v u at x.1).one_pass k y z mine its))

    beside_new : (i j : ℕ) (u : Known D) → At (set views by (without_entry v)) j u → Both i (only_entry v) j u
    beside_new i j u at_j =
        let was = at_set views by j (without_entry v) u at_j in (
          record {
            one_keeper = λ mine _. off mine;
            kept = λ k y mine _. off mine;
            one_pass = λ k y z mine its. absurd (not_shown j u was k y z mine its);
          },
          record {
            one_keeper = λ _ mine. off mine;
            kept = still_kept j u was;
            one_pass = λ k y z its mine. absurd (not_shown j u was k z y mine its);
          },
        )

  pub splits : (by : ℕ) (v : Known D)
      → Splits {S = Unit {0}} (λ s. IsTied s.views) by v (without_entry v) (only_entry v)
  splits by v s tied at =
      let now = tied_set s.views by (without_entry v) tied (emptied s.views by v tied at) in
      tied_more (set s.views by (without_entry v)) (only_entry v) now
      record { one_keeper = λ mine _. off mine; kept = λ k y mine _. off mine; one_pass = λ k y z _ _. refl }
      (beside_new s.views by v tied at _)
