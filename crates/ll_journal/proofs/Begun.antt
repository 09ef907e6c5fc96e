-- What begins a walk.
use Rattle.std.specs.Prelude.{◌≡◌, ◌≢◌, ◌⊎◌, ℕ, zero, suc, ◌+◌, ◌<◌, Bool, true, false, not, ◌&&◌, List, [], ◌∷◌}
use Rattle.std.specs.Prelude.{Option, Some, None, is_none, is_some, option_and_then, slice_get, slice_set, refl}
use Rattle.std.specs.Option.{option_map_or}
use Rattle.std.specs.Ordering.{nat_cmp}
use Rattle.std.specs.Cmp.{nat_cmp_total}
use Rattle.std.specs.FinMap.{nat_cmp-IsAntisymmetric}
use Rattle.std.proofs.Common.{sym, ap, ◌∙◌, inl, inr, arith}
use Rattle.ll_rights.specs.MapCodes.{same_list_map}
use Rattle.ll_rights.specs.Map.{get, insert}
use Rattle.ll_rights.proofs.Maps.{get-empty, get-insert_same, get-insert_other, insert_cases, same_map}
use Rattle.ll_rights.specs.declared.errno.Errno.{Errno}
use Rattle.ll_seq.specs.declared.client.ClientRecord.{ClientRecord}
use Rattle.ll_seq.specs.declared.call.Call.{Call}
use Rattle.ll_seq.specs.declared.call.Call.TheVariants.{Make, Open, Read, Write, Ftruncate, Close, Truncate, ReadDir}
use Rattle.ll_seq.specs.declared.call.Call.TheVariants.{Stat, Exec, Unlink, Rmdir, Rename, RenameNoreplace, Exchange}
use Rattle.ll_seq.specs.declared.call.Call.TheVariants.{Link, Ruleset, Allow, Confine, Spawn, Connect}
use Rattle.ll_seq.specs.Call.{targets}
use Rattle.ll_seq.specs.Passed.{has_path}
use Rattle.ll_laws.specs.Walk.{Walk}
use Rattle.ll_laws.specs.World.{has_any, is_walked}
use Rattle.ll_seq.specs.Stages.{early_refusals}
use Rattle.ll_node.proofs.SlotLists.{set_same, set_other}
use Rattle.ll_journal.specs.Book.{Seat}
use Rattle.ll_journal.specs.Kept.{walks_from, seat_at}

-- a call with a target names a path
pub names_one : (call : Call) → has_any (targets call) ≡ true → has_path call ≡ true
names_one (Make kind target) e = refl
names_one (Open mode target) e = refl
names_one (Read fd offset count) e = absurd (cc e)
names_one (Write fd offset bytes) e = absurd (cc e)
names_one (Ftruncate fd size) e = absurd (cc e)
names_one (Close fd) e = absurd (cc e)
names_one (Truncate target size) e = refl
names_one (ReadDir target) e = refl
names_one (Stat target) e = refl
names_one (Exec target) e = refl
names_one (Unlink target) e = refl
names_one (Rmdir target) e = refl
names_one (Rename from into) e = refl
names_one (RenameNoreplace from into) e = refl
names_one (Exchange from into) e = refl
names_one (Link from into) e = refl
names_one (Ruleset rights) e = absurd (cc e)
names_one (Allow number target rights) e = refl
names_one (Confine number) e = absurd (cc e)
names_one Spawn e = absurd (cc e)
names_one Connect e = absurd (cc e)

none_early : {A : Type 0} (es : List A) (first : Option A) → first ≡ slice_get es 0 → is_none first ≡ not (has_any es)
none_early [] first e = ap is_none e
none_early (x ∷ es) first e = ap is_none e

pub turned : {A : Type 0} (o : Option A) (b : Bool) → not b ≡ is_some o → b ≡ is_none o
turned None true e = refl
turned None false e = absurd (cc e)
turned (Some x) true e = absurd (cc e)
turned (Some x) false e = refl

-- what no early stage refuses
pub walks_is : (c : ClientRecord) (call : Call) (first : Option Errno) → has_any (targets call) ≡ true
    → (has_path call ≡ true → first ≡ slice_get (early_refusals c call) 0) → is_none first ≡ is_walked c call
walks_is c call first named early =
    none_early (early_refusals c call) first (early (names_one call named))
    ∙ sym (ap (λ b. b && not (has_any (early_refusals c call))) named)

-- ---- seats and walks

abbrev walk_in : Option Seat → Option Walk
walk_in = option_and_then (λ (seat : Seat). seat.walk)

not_yet : (seats : List Seat) (first q : ℕ) → q < first → get (walks_from first seats) q ≡ None
not_yet [] first q lt = get-empty Walk nat_cmp q
not_yet (seat ∷ seats) first q lt =
    let later : get (walks_from (first + 1) seats) q ≡ None = not_yet seats (first + 1) q (omega arith) in
    elim seat.walk as (λ o. get (option_map_or (λ (walk : Walk). insert (walks_from (first + 1) seats) first walk) o
    (walks_from (first + 1) seats)) q ≡ None) [
      | None ↦ later
      | Some walk ↦ get-insert_other nat_cmp_total nat_cmp-IsAntisymmetric (walks_from (first + 1) seats) first walk q
          (λ e. absurd (omega (arith, lt, e))) ∙ later
    ]

found_at : (seats : List Seat) (first place q : ℕ) → first + place ≡ q
    → get (walks_from first seats) q ≡ walk_in (slice_get seats place)
found_at [] first place q e = get-empty Walk nat_cmp q
found_at (seat ∷ seats) first zero q e =
    let here : first ≡ q = omega (arith, e) in
    elim seat.walk as (λ o. get (option_map_or (λ (walk : Walk). insert (walks_from (first + 1) seats) first walk) o
    (walks_from (first + 1) seats)) q ≡ o) [
      | None ↦ not_yet seats (first + 1) q (omega (arith, here))
      | Some walk ↦ ap (get (insert (walks_from (first + 1) seats) first walk)) (sym here)
          ∙ get-insert_same nat_cmp_total nat_cmp-IsAntisymmetric (walks_from (first + 1) seats) first walk
    ]
found_at (seat ∷ seats) first (suc place) q e =
    let later : get (walks_from (first + 1) seats) q ≡ walk_in (slice_get seats place) =
    found_at seats (first + 1) place q (omega (arith, e)) in
    elim seat.walk as (λ o. get (option_map_or (λ (walk : Walk). insert (walks_from (first + 1) seats) first walk) o
    (walks_from (first + 1) seats)) q ≡ walk_in (slice_get seats place)) [
      | None ↦ later
      | Some walk ↦ get-insert_other nat_cmp_total nat_cmp-IsAntisymmetric (walks_from (first + 1) seats) first walk q
          (λ s. absurd (omega (arith, e, s))) ∙ later
    ]

-- the walk of the client of this number
pub walk_at : (seats : List Seat) (q : ℕ) → get (walks_from 1 seats) q ≡ walk_in (seat_at seats q)
walk_at seats zero = not_yet seats 1 zero (omega arith)
walk_at seats (suc place) = found_at seats 1 place (suc place) (omega arith)

-- another walk in the seat is another walk of its client
pub walks_put : (seats : List Seat) (place : ℕ) (old seat : Seat) (walk : Walk) → slice_get seats place ≡ Some old
    → seat.walk ≡ Some walk
    → walks_from 1 (slice_set seats place seat) ≡ insert (walks_from 1 seats) (suc place) walk
walks_put seats place old seat walk at is =
    same_list_map _ _ (same_map nat_cmp_total nat_cmp-IsAntisymmetric _ _ (λ q. walk_at (slice_set seats place seat) q
    ∙ by q (insert_cases nat_cmp_total nat_cmp-IsAntisymmetric (walks_from 1 seats) (suc place) walk q)))
  where
    by : (q : ℕ) → ((q ≡ suc place) × (get (insert (walks_from 1 seats) (suc place) walk) q ≡ Some walk))
        ⊎ ((q ≢ suc place) × (get (insert (walks_from 1 seats) (suc place) walk) q ≡ get (walks_from 1 seats) q))
        → walk_in (seat_at (slice_set seats place seat) q) ≡ get (insert (walks_from 1 seats) (suc place) walk) q
    by q (inl a) = ap (λ n. walk_in (seat_at (slice_set seats place seat) n)) a.0
        ∙ ap walk_in (set_same seats place old seat at) ∙ is ∙ sym a.1
    by q (inr a) = other q a.0 ∙ sym (walk_at seats q) ∙ sym a.1
      where
        other : (q : ℕ) → q ≢ suc place → walk_in (seat_at (slice_set seats place seat) q) ≡ walk_in (seat_at seats q)
        other zero n = refl
        other (suc j) n = ap walk_in (set_other seats place j seat (λ e. n (ap suc (sym e))))
