-- What a commit does to the walks that go on: some of them are stale.
use Rattle.std.specs.Prelude.{◌≡◌, ◌≢◌, ℕ, zero, suc, ◌+◌, ◌<◌, ◌≤◌, Bool, true, false, not, ◌&&◌, ◌||◌, ◌==◌, List, []}
use Rattle.std.specs.Prelude.{◌∷◌, length, map, slice_get, slice_set, Option, Some, None, option_map, option_and_then}
use Rattle.std.specs.Prelude.{refl}
use Rattle.std.specs.List.{list_any}
use Rattle.std.specs.Option.{option_map_or}
use Rattle.std.specs.Ordering.{nat_cmp}
use Rattle.std.specs.Cmp.{nat_cmp_total}
use Rattle.std.specs.FinMap.{nat_cmp-IsAntisymmetric}
use Rattle.std.proofs.Common.{sym, ap, ◌∙◌, arith}
use Rattle.std.proofs.lemmas.Bool.{eqb-true, eq-eqb}
use Rattle.std.proofs.lemmas.Option.{slice_get-map, slice_get_within}
use Rattle.ll_rights.specs.Map.{Map, get}
use Rattle.ll_rights.specs.MapCodes.{same_list_map}
use Rattle.ll_rights.proofs.Maps.{same_map}
use Rattle.ll_laws.proofs.Chains.{same_Some}
use Rattle.ll_seq.specs.declared.call.Call.{Call}
use Rattle.ll_seq.specs.State.{State}
use Rattle.ll_laws.specs.Walk.{Walk, marks, passes}
use Rattle.ll_laws.specs.World.{World, is_marked_by_other, map_values, overtaken}
use Rattle.ll_laws.proofs.Tests as tests
use Rattle.ll_laws.proofs.WalkMaps.{found, get-map_values}
use Rattle.ll_journal.specs.declared.stage.Stage.{Stage}
use Rattle.ll_journal.specs.declared.stage.Stage.TheVariants.{Above, Down, Split}
use Rattle.ll_journal.specs.declared.seat.Seat.TheInside.{Inside}
use Rattle.ll_journal.specs.Book as book
use Rattle.ll_journal.specs.Kept.{AreSeated, seat_at, walks_from}
use Rattle.ll_journal.specs.Seated.{seat_of}
use Rattle.ll_journal.proofs.Begun.{walk_at}
use Rattle.ll_journal.proofs.MarkOf.{who_passes}

-- ---- one seat

pub or_false : (b : Bool) → (b || false) ≡ b
or_false true = refl
or_false false = refl

-- some of the directories is on the walk's way
abbrev pub passes_any : List ℕ → book.Seat → Bool
passes_any moved seat = list_any (λ inode. option_map_or (λ (walk : Walk). passes walk inode) seat.walk false) moved

abbrev pub overtaken_seat : List ℕ → book.Seat → book.Seat
overtaken_seat moved seat = record seat { walk = option_map (overtaken moved) seat.walk }

module _ (seat : Inside) (moved : List ℕ) where
  abbrev view : Stage → Option Call → Bool → book.Seat
  view stage o stale = seat_of (record seat { call = o; is_stale = stale; stage = stage })

  -- whether it passes any is known
  known : (stage : Stage) (o : Option Call) (b : Bool) → passes_any moved (view stage o seat.is_stale) ≡ b
      → view stage o (seat.is_stale || b) ≡ overtaken_seat moved (view stage o seat.is_stale)
  known stage None b f = refl
  known Above (Some call) b f = ap (λ t. view Above (Some call) (seat.is_stale || t)) (sym f)
  known Down (Some call) b f = ap (λ t. view Down (Some call) (seat.is_stale || t)) (sym f)
  known Split (Some call) b f = ap (λ t. view Split (Some call) (seat.is_stale || t)) (sym f)

  pub passed_by : passes_any moved (seat_of seat) ≡ false → seat_of seat ≡ overtaken_seat moved (seat_of seat)
  passed_by e = ap (view seat.stage seat.call) (sym (or_false seat.is_stale)) ∙ known seat.stage seat.call false e

-- ---- all seats

-- the first so many are changed
abbrev pub changed_below : {A : Type 0} → (A → A) → ℕ → List A → List A
changed_below f zero xs = xs
changed_below f (suc n) [] = []
changed_below f (suc n) (x ∷ xs) = f x ∷ changed_below f n xs

change_next : {A : Type 0} (f : A → A) (xs : List A) (n : ℕ) (x : A) → slice_get (changed_below f n xs) n ≡ Some x
    → slice_set (changed_below f n xs) n (f x) ≡ changed_below f (suc n) xs
change_next f [] zero x e = absurd (cc e)
change_next f [] (suc n) x e = absurd (cc e)
change_next f (y ∷ xs) zero x e = ap (λ z. f z ∷ xs) (sym (same_Some y x e))
change_next f (y ∷ xs) (suc n) x e = ap (λ zs. f y ∷ zs) (change_next f xs n x e)

-- and one more
pub one_changed : {A : Type 0} (f : A → A) (xs ys : List A) (n : ℕ) (x : A) → ys ≡ changed_below f n xs
    → slice_get ys n ≡ Some x → slice_set ys n (f x) ≡ changed_below f (n + 1) xs
one_changed f xs ys n x is e =
    let more : n + 1 ≡ suc n = omega arith in
    ap (λ zs. slice_set zs n (f x)) is ∙ change_next f xs n x (ap (λ zs. slice_get zs n) (sym is) ∙ e)
    ∙ ap (λ k. changed_below f k xs) (sym more)

pub all_changed : {A : Type 0} (f : A → A) (xs : List A) (n : ℕ) → length xs ≤ n → changed_below f n xs ≡ map f xs
all_changed f [] zero le = refl
all_changed f [] (suc n) le = refl
all_changed f (x ∷ xs) zero le = absurd (omega arith)
all_changed f (x ∷ xs) (suc n) le = ap (λ ys. f x ∷ ys) (all_changed f xs n (omega arith))

-- ---- whether another's walk stands in a directory

abbrev pub stands_in : book.Seat → ℕ → Bool
stands_in seat inode = option_map_or (λ (walk : Walk). marks walk inode) seat.walk false

and_false : (b : Bool) → (b && false) ≡ false
and_false true = refl
and_false false = refl

-- the walk of no other client of the first so many
abbrev pub NoneBefore : List book.Seat → ℕ → ℕ → ℕ → Type 0
NoneBefore seats client inode n =
    (place : ℕ) (seat : book.Seat) → place < n → slice_get seats place ≡ Some seat
    → (not (place + 1 == client) && stands_in seat inode) ≡ false

module _ (seats : List book.Seat) (client inode : ℕ) where
  abbrev is_marked_at : ℕ → book.Seat → Bool
  is_marked_at n seat = not (n + 1 == client) && stands_in seat inode

  pub own : (n : ℕ) (seat : book.Seat) → n + 1 ≡ client → is_marked_at n seat ≡ false
  own n seat e = ap (λ b. not b && stands_in seat inode) (eq-eqb (n + 1) client e)

  pub elsewhere : (n : ℕ) (seat : book.Seat) → stands_in seat inode ≡ false → is_marked_at n seat ≡ false
  elsewhere n seat e = ap (λ b. not (n + 1 == client) && b) e ∙ and_false (not (n + 1 == client))

  pub none_more : (n : ℕ) (seat : book.Seat) → slice_get seats n ≡ Some seat → is_marked_at n seat ≡ false
      → NoneBefore seats client inode n → NoneBefore seats client inode (n + 1)
  none_more n seat at free before place seat' lt at' =
      elim (place == n) as (λ b. (place == n) ≡ b → is_marked_at place seat' ≡ false) [
        | true ↦ λ e.
            let here : place ≡ n = eqb-true place n e in
            let same : seat ≡ seat' = same_Some seat seat' (sym at ∙ ap (slice_get seats) (sym here) ∙ at') in
            ap (λ k. is_marked_at k seat') here ∙ ap (is_marked_at n) (sym same) ∙ free
        | false ↦ λ e.
            let other : place ≢ n = λ g. cc (sym e ∙ eq-eqb place n g) in
            before place seat' (omega arith) at'
      ] refl

  module _ (w : World) (is : w.walks ≡ walks_from 1 seats) where
    walk_of : (number : ℕ) → get w.walks number
        ≡ option_and_then (λ (seat : book.Seat). seat.walk) (seat_at seats number)
    walk_of number = ap (λ (m : Map nat_cmp Walk). get m number) is ∙ walk_at seats number

    abbrev test : ℕ × Walk → Bool
    test e = not (e.0 == client) && marks e.1 inode

    pub marked_here : (place : ℕ) (seat : book.Seat) → slice_get seats place ≡ Some seat → place + 1 ≢ client
        → stands_in seat inode ≡ true → is_marked_by_other w client inode ≡ true
    marked_here place seat at other e = by seat.walk refl e
      where
        by : (o : Option Walk) → seat.walk ≡ o → option_map_or (λ (walk : Walk). marks walk inode) o false ≡ true
            → is_marked_by_other w client inode ≡ true
        by None f g = absurd (cc g)
        by (Some walk) f g =
            let next : place + 1 ≡ suc place = omega arith in
            let another : (suc place == client) ≡ false =
            tests.or_false (suc place == client) (λ h. other (next ∙ eqb-true (suc place) client h)) in
            found w.walks test (suc place) walk (walk_of (suc place)
            ∙ ap (option_and_then (λ (s : book.Seat). s.walk)) at ∙ f)
            (ap (λ b. not b && marks walk inode) another ∙ g)

    pub marked_nowhere : (n : ℕ) → length seats ≤ n → NoneBefore seats client inode n
        → is_marked_by_other w client inode ≡ false
    marked_nowhere n all none = tests.or_false (is_marked_by_other w client inode)
        (λ h. let x = who_passes w.walks test h in nobody x.0 x.1 x.2 x.3)
      where
        nobody : (number : ℕ) (walk : Walk) → get w.walks number ≡ Some walk → test (number, walk) ≡ true → ⊥
        nobody zero walk e f = cc (sym (walk_of zero) ∙ e)
        nobody (suc place) walk e f = by (slice_get seats place) refl (sym (walk_of (suc place)) ∙ e)
          where
            by : (o : Option book.Seat) → slice_get seats place ≡ o
                → option_and_then (λ (seat : book.Seat). seat.walk) o ≡ Some walk → ⊥
            by None at g = cc g
            by (Some seat) at g =
                let next : place + 1 ≡ suc place = omega arith in
                let within : place < length seats = slice_get_within seats place seat at in
                let free : (not (place + 1 == client) && stands_in seat inode) ≡ false =
                none place seat (omega arith) at in
                cc (sym free ∙ ap (λ o. not (place + 1 == client)
                && option_map_or (λ (v : Walk). marks v inode) o false) g
                ∙ ap (λ k. not (k == client) && marks walk inode) next ∙ f)

-- ---- what stays of the seats

module _ (moved : List ℕ) where
  abbrev pub overtaken_seats : List book.Seat → List book.Seat
  overtaken_seats seats = map (overtaken_seat moved) seats

  pub seat_at-overtaken : (seats : List book.Seat) (number : ℕ)
      → seat_at (overtaken_seats seats) number ≡ option_map (overtaken_seat moved) (seat_at seats number)
  seat_at-overtaken seats zero = refl
  seat_at-overtaken seats (suc place) = slice_get-map (overtaken_seat moved) seats place

  pub spares_overtaken : (seats : List book.Seat)
      → map (λ (seat : book.Seat). seat.spare) (overtaken_seats seats) ≡ map (λ (seat : book.Seat). seat.spare) seats
  spares_overtaken [] = refl
  spares_overtaken (seat ∷ seats) = ap (λ ks. seat.spare ∷ ks) (spares_overtaken seats)

  pub seated_overtaken : (s : State) (seats : List book.Seat) → AreSeated s seats → AreSeated s (overtaken_seats seats)
  seated_overtaken s seats seated number =
      seated number ∙ sym (ap (option_map (λ (seat : book.Seat). seat.client)) (seat_at-overtaken seats number)
      ∙ by (seat_at seats number))
    where
      by : (o : Option book.Seat) → option_map (λ (seat : book.Seat). seat.client) (option_map (overtaken_seat moved) o)
          ≡ option_map (λ (seat : book.Seat). seat.client) o
      by None = refl
      by (Some seat) = refl

  -- and every walk is as the commit leaves it
  pub walks_overtaken : (seats : List book.Seat)
      → walks_from 1 (overtaken_seats seats) ≡ map_values (overtaken moved) (walks_from 1 seats)
  walks_overtaken seats = same_list_map _ _ (same_map nat_cmp_total nat_cmp-IsAntisymmetric _ _ (λ q.
      walk_at (overtaken_seats seats) q ∙ ap walk_in (seat_at-overtaken seats q) ∙ by (seat_at seats q)
      ∙ sym (get-map_values (overtaken moved) (walks_from 1 seats) q
      ∙ ap (option_map (overtaken moved)) (walk_at seats q))))
    where
      walk_in : Option book.Seat → Option Walk
      walk_in o = option_and_then (λ (seat : book.Seat). seat.walk) o

      by : (o : Option book.Seat) → walk_in (option_map (overtaken_seat moved) o)
          ≡ option_map (overtaken moved) (walk_in o)
      by None = refl
      by (Some seat) = refl
