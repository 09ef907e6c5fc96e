-- Needs with one ask or one move more.
use Rattle.std.specs.Prelude.{◌≡◌, ◌↔◌, ℕ, Bool, true, false, ◌&&◌, bit_and, List, [], ◌∷◌, ◌++◌, All}
use Rattle.std.specs.Prelude.{Some, refl}
use Rattle.std.proofs.Common.{ap, eqb-true, subst, sym, ◌∙◌}
use Rattle.std.proofs.lemmas.List.Elements.{All-append, All-cons, All-contains, All-nil, All-pop}
use Rattle.ll_rights.specs.Access.{holds, is_within}
use Rattle.ll_decide.proofs.Bits.{holds-and}
use Rattle.ll_decide.proofs.OneByOne.{holds_none}
use Rattle.ll_learn.specs.declared.needs.Asked.{Asked}
use Rattle.ll_learn.specs.declared.needs.Moved.{Moved}
use Rattle.ll_learn.specs.declared.needs.Needs.{Needs}
use Rattle.ll_learn.specs.Needs.{AreRooted, GainsNothing, GivesNone, GrantsAll, HasAsk, HasMove, IsGranted, Meets}
use Rattle.ll_learn.specs.Needs.{StartsAtRoot}

with_last : {A : Type 0} (P : A → Type 0) (xs : List A) (x : A) → All P (xs ++ x ∷ []) ↔ (All P xs × P x)
with_last P xs x = (
  λ all. let parts = All-pop P (xs ++ x ∷ []) xs (Some x) refl all in (parts.0, parts.1),
  λ both. All-append P xs (x ∷ []) both.0 (All-cons P x [] both.1 (All-nil P)),
)

-- what holds of a set holds of one within it
within_holds : (some set right : ℕ) → is_within some set ≡ true → holds some right ≡ true → holds set right ≡ true
within_holds some set right within has =
    let same : bit_and set some ≡ some = eqb-true (bit_and set some) some within in
    first (holds set right) (holds some right) (sym (holds-and set some right) ∙ ap (λ n. holds n right) same ∙ has)
  where
    first : (a b : Bool) → (a && b) ≡ true → a ≡ true
    first true b e = refl
    first false b e = absurd cc

no_right : (right : ℕ) (rights : ℕ) → rights ≡ 0 → holds rights right ≡ true → ⊥
no_right right rights none has =
    let never = sym has ∙ ap (λ n. holds n right) none ∙ holds_none right in absurd cc

module _ (grants : List ℕ → ℕ → Bool) where
  pub nothing_asked : (rights : ℕ) (inodes : List ℕ) → rights ≡ 0 → GrantsAll grants rights inodes
  nothing_asked rights inodes none right known has = absurd (no_right right rights none has)

  pub nothing_moved : (rights : ℕ) (from into : List ℕ) → rights ≡ 0 → GivesNone grants rights from into
  nothing_moved rights from into none right known has there = absurd (no_right right rights none has)

  abbrev Granted : Asked → Type 0
  Granted a = IsGranted grants a

  abbrev Gained : Moved → Type 0
  Gained m = GainsNothing grants m

  pub asked_before : (needs : Needs) (rights : ℕ) (inodes : List ℕ) → HasAsk needs.asks.items rights inodes
      → Meets grants needs → GrantsAll grants rights inodes
  asked_before needs rights inodes has meets right known asks =
      let there = All-contains Granted needs.asks.items has.0 meets.asks has.1 in
      subst (λ (l : List ℕ). grants l right ≡ true) has.3
      (there right known (within_holds rights has.0.rights.0 right has.2 asks))

  pub moved_before : (needs : Needs) (rights : ℕ) (from into : List ℕ) → HasMove needs.moves.items rights from into
      → Meets grants needs → GivesNone grants rights from into
  moved_before needs rights from into has meets right known means given =
      let there = All-contains Gained needs.moves.items has.0 meets.moves has.1 in
      subst (λ (l : List ℕ). grants l right ≡ true) has.3
      (there right known (within_holds rights has.0.rights.0 right has.2 means)
      (subst (λ (l : List ℕ). grants l right ≡ true) (sym has.4) given))

  pub more_asked : (old new : Needs) (a : Asked) (inodes : List ℕ) → new.asks.items ≡ old.asks.items ++ a ∷ []
      → new.moves.items ≡ old.moves.items → a.inodes.items ≡ inodes
      → Meets grants new ↔ (Meets grants old × GrantsAll grants a.rights.0 inodes)
  more_asked old new a inodes more same on = (
    λ meets.
        let both = (with_last Granted old.asks.items a).0 (subst (All Granted) more meets.asks) in (
          record { asks = both.0; moves = subst (All Gained) same meets.moves },
          subst (GrantsAll grants a.rights.0) on both.1,
        ),
    λ both. record {
      asks = subst (All Granted) (sym more) ((with_last Granted old.asks.items a).1
          (both.0.asks, subst (GrantsAll grants a.rights.0) (sym on) both.1));
      moves = subst (All Gained) (sym same) both.0.moves;
    },
  )

  pub more_moved : (old new : Needs) (m : Moved) (from into : List ℕ) → new.moves.items ≡ old.moves.items ++ m ∷ []
      → new.asks.items ≡ old.asks.items → m.from.items ≡ from → m.into.items ≡ into
      → Meets grants new ↔ (Meets grants old × GivesNone grants m.rights.0 from into)
  more_moved old new m from into more same off on = (
    λ meets.
        let both = (with_last Gained old.moves.items m).0 (subst (All Gained) more meets.moves) in (
          record { asks = subst (All Granted) same meets.asks; moves = both.0 },
          λ right known means given. subst (λ (l : List ℕ). grants l right ≡ true) off
              (both.1 right known means (subst (λ (l : List ℕ). grants l right ≡ true) (sym on) given)),
        ),
    λ both. record {
      asks = subst (All Granted) (sym same) both.0.asks;
      moves = subst (All Gained) (sym more) ((with_last Gained old.moves.items m).1 (
        both.0.moves,
        λ right known means given. subst (λ (l : List ℕ). grants l right ≡ true) (sym off)
            (both.1 right known means (subst (λ (l : List ℕ). grants l right ≡ true) on given)),
      ));
    },
  )

-- ---- paths from the root

abbrev Ask_rooted : Asked → Type 0
Ask_rooted a = StartsAtRoot a.inodes.items

abbrev From_rooted : Moved → Type 0
From_rooted m = StartsAtRoot m.from.items

abbrev Into_rooted : Moved → Type 0
Into_rooted m = StartsAtRoot m.into.items

pub rooted_ask : (old new : Needs) (a : Asked) (inodes : List ℕ) → new.asks.items ≡ old.asks.items ++ a ∷ []
    → new.moves.items ≡ old.moves.items → a.inodes.items ≡ inodes → AreRooted old → StartsAtRoot inodes → AreRooted new
rooted_ask old new a inodes more same on rooted starts = record {
  asks = subst (All Ask_rooted) (sym more)
      ((with_last Ask_rooted old.asks.items a).1 (rooted.asks, subst StartsAtRoot (sym on) starts));
  from = subst (All From_rooted) (sym same) rooted.from;
  into = subst (All Into_rooted) (sym same) rooted.into;
}

pub rooted_move : (old new : Needs) (m : Moved) (from into : List ℕ) → new.moves.items ≡ old.moves.items ++ m ∷ []
    → new.asks.items ≡ old.asks.items → m.from.items ≡ from → m.into.items ≡ into → AreRooted old → StartsAtRoot from
    → StartsAtRoot into → AreRooted new
rooted_move old new m from into more same off on rooted starts begins = record {
  asks = subst (All Ask_rooted) (sym same) rooted.asks;
  from = subst (All From_rooted) (sym more)
      ((with_last From_rooted old.moves.items m).1 (rooted.from, subst StartsAtRoot (sym off) starts));
  into = subst (All Into_rooted) (sym more)
      ((with_last Into_rooted old.moves.items m).1 (rooted.into, subst StartsAtRoot (sym on) begins));
}

-- ---- the same needs

pub same_needs : (grants : List ℕ → ℕ → Bool) (old new : Needs) → new.asks ≡ old.asks → new.moves ≡ old.moves
    → Meets grants new ↔ Meets grants old
same_needs grants old new a m =
    let asks : new.asks.items ≡ old.asks.items = λ i. (a i).items in
    let moves : new.moves.items ≡ old.moves.items = λ i. (m i).items in (
      λ meets. record {
        asks = subst (All (Granted grants)) asks meets.asks;
        moves = subst (All (Gained grants)) moves meets.moves;
      },
      λ meets. record {
        asks = subst (All (Granted grants)) (sym asks) meets.asks;
        moves = subst (All (Gained grants)) (sym moves) meets.moves;
      },
    )

pub rooted_same : (old new : Needs) → new.asks ≡ old.asks → new.moves ≡ old.moves → AreRooted old → AreRooted new
rooted_same old new a m rooted = record {
  asks = subst (All Ask_rooted) (sym (λ i. (a i).items)) rooted.asks;
  from = subst (All From_rooted) (sym (λ i. (m i).items)) rooted.from;
  into = subst (All Into_rooted) (sym (λ i. (m i).items)) rooted.into;
}
