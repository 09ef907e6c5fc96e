-- A client that comes: its number, its seat, and the slot that it keeps.
use Rattle.std.specs.Prelude.{◌≡◌, ◌≢◌, ◌⊎◌, ℕ, zero, suc, ◌+◌, ◌<◌, cond, List, [], ◌∷◌, ◌++◌, map, length, Option}
use Rattle.std.specs.Prelude.{Some, None, is_some, option_map, slice_get, refl}
use Rattle.std.specs.Option.{option_map_or}
use Rattle.std.specs.Ordering.{nat_cmp}
use Rattle.std.specs.Cmp.{nat_cmp_total}
use Rattle.std.specs.FinMap.{nat_cmp-IsAntisymmetric}
use Rattle.std.proofs.Common.{sym, ap, ◌∙◌, inl, inr, arith}
use Rattle.ll_rights.specs.Map.{Map, empty, get, insert, len}
use Rattle.ll_rights.proofs.Maps.{get-empty, get-insert_same, get-insert_other, insert_cases}
use Rattle.ll_seq.specs.declared.client.ClientRecord.{ClientRecord}
use Rattle.ll_seq.specs.State.{State}
use Rattle.ll_seq.specs.Effects.{with_client}
use Rattle.ll_laws.specs.Walk.{Walk}
use Rattle.ll_journal.specs.Book.{Seat}
use Rattle.ll_node.specs.InodeTable.{NotIn}
use Rattle.ll_journal.specs.Kept.{AreSeated, seat_at, walks_from}
use Rattle.ll_node.specs.InodeTable.{AreDistinct}
use Rattle.ll_rights.proofs.Sizes.{len-empty, len-insert, same_len}
use Rattle.ll_node.proofs.SlotLists.{in_neither, not_in_both}

-- ---- as many clients as seats

abbrev clients_from : ℕ → List Seat → Map nat_cmp ClientRecord
clients_from number [] = empty
clients_from number (seat ∷ seats) = insert (clients_from (number + 1) seats) number seat.client

abbrev client_in : Option Seat → Option ClientRecord
client_in = option_map (λ (seat : Seat). seat.client)

not_yet : (seats : List Seat) (first q : ℕ) → q < first → get (clients_from first seats) q ≡ None
not_yet [] first q lt = get-empty ClientRecord nat_cmp q
not_yet (seat ∷ seats) first q lt =
    get-insert_other nat_cmp_total nat_cmp-IsAntisymmetric (clients_from (first + 1) seats) first seat.client q
    (λ e. absurd (omega (arith, lt, e)))
    ∙ not_yet seats (first + 1) q (omega arith)

found_at : (seats : List Seat) (first place q : ℕ) → first + place ≡ q
    → get (clients_from first seats) q ≡ client_in (slice_get seats place)
found_at [] first place q e = get-empty ClientRecord nat_cmp q
found_at (seat ∷ seats) first zero q e =
    let here : first ≡ q = omega (arith, e) in
    ap (get (clients_from first (seat ∷ seats))) (sym here)
    ∙ get-insert_same nat_cmp_total nat_cmp-IsAntisymmetric (clients_from (first + 1) seats) first seat.client
found_at (seat ∷ seats) first (suc place) q e =
    get-insert_other nat_cmp_total nat_cmp-IsAntisymmetric (clients_from (first + 1) seats) first seat.client q
    (λ s. absurd (omega (arith, e, s)))
    ∙ found_at seats (first + 1) place q (omega (arith, e))

client_at : (seats : List Seat) (q : ℕ) → get (clients_from 1 seats) q ≡ client_in (seat_at seats q)
client_at seats zero = not_yet seats 1 zero (omega arith)
client_at seats (suc place) = found_at seats 1 place (suc place) (omega arith)

len_from : (seats : List Seat) (first : ℕ) → len (clients_from first seats) ≡ length seats
len_from [] first = len-empty ClientRecord
len_from (seat ∷ seats) first =
    let rest = len_from seats (first + 1) in
    len-insert (clients_from (first + 1) seats) first seat.client
    ∙ ap (λ o. cond (is_some o) (len (clients_from (first + 1) seats)) (len (clients_from (first + 1) seats) + 1))
    (not_yet seats (first + 1) first (omega arith))
    ∙ (omega (arith, rest))

pub clients_len : (s : State) (seats : List Seat) → AreSeated s seats → len s.clients ≡ length seats
clients_len s seats seated =
    same_len s.clients (clients_from 1 seats) (λ (c : ClientRecord). c) (λ (c : ClientRecord). c)
    (λ q. ap (option_map (λ (c : ClientRecord). c)) (seated q ∙ sym (client_at seats q)))
    ∙ len_from seats 1

-- ---- one seat more

got_last : (seats : List Seat) (seat : Seat) → slice_get (seats ++ seat ∷ []) (length seats) ≡ Some seat
got_last [] seat = refl
got_last (z ∷ seats) seat = got_last seats seat

got_before : (seats : List Seat) (seat : Seat) (q : ℕ) → q ≢ length seats
    → slice_get (seats ++ seat ∷ []) q ≡ slice_get seats q
got_before [] seat zero other = absurd (other refl)
got_before [] seat (suc q) other = refl
got_before (z ∷ seats) seat zero other = refl
got_before (z ∷ seats) seat (suc q) other = got_before seats seat q (λ e. other (ap suc e))

pub seated_more : (s : State) (seats : List Seat) (seat : Seat) (number : ℕ) → number ≡ length seats + 1
    → AreSeated s seats → AreSeated (with_client s number seat.client) (seats ++ seat ∷ [])
seated_more s seats seat number is seated q =
    by (insert_cases nat_cmp_total nat_cmp-IsAntisymmetric s.clients number seat.client q)
  where
    last : number ≡ suc (length seats)
    last = omega (arith, is)

    other : (q : ℕ) → q ≢ number → seat_at (seats ++ seat ∷ []) q ≡ seat_at seats q
    other zero n = refl
    other (suc place) n = got_before seats seat place (λ e. n (ap suc e ∙ sym last))

    by : ((q ≡ number) × (get (insert s.clients number seat.client) q ≡ Some seat.client))
        ⊎ ((q ≢ number) × (get (insert s.clients number seat.client) q ≡ get s.clients q))
        → get (insert s.clients number seat.client) q ≡ client_in (seat_at (seats ++ seat ∷ []) q)
    by (inl a) = a.1 ∙ sym (ap client_in (ap (seat_at (seats ++ seat ∷ [])) (a.0 ∙ last) ∙ got_last seats seat))
    by (inr a) = a.1 ∙ seated q ∙ sym (ap client_in (other q a.0))

-- no walk comes with it
pub walks_more : (seats : List Seat) (seat : Seat) (first : ℕ) → seat.walk ≡ None
    → walks_from first (seats ++ seat ∷ []) ≡ walks_from first seats
walks_more [] seat first none = ap (λ o. option_map_or (λ (walk : Walk). insert empty first walk) o empty) none
walks_more (z ∷ seats) seat first none =
    ap (λ m. option_map_or (λ (walk : Walk). insert m first walk) z.walk m) (walks_more seats seat (first + 1) none)

-- ---- its slot

pub spares_more : (seats : List Seat) (seat : Seat)
    → map (λ (s : Seat). s.spare) (seats ++ seat ∷ []) ≡ map (λ (s : Seat). s.spare) seats ++ seat.spare ∷ []
spares_more [] seat = refl
spares_more (z ∷ seats) seat = ap (λ ks. z.spare ∷ ks) (spares_more seats seat)

distinct_last : (x : ℕ) (ys : List ℕ) → NotIn x ys → AreDistinct ys → AreDistinct (ys ++ x ∷ [])
distinct_last x [] out apart = (tt, tt)
distinct_last x (y ∷ ys) out apart =
    (not_in_both y ys (x ∷ []) apart.0 (λ e. out.0 (sym e), tt), distinct_last x ys out.1 apart.1)

-- the last of the free slots goes to the end of the spares
pub distinct_moved : (free spares : List ℕ) (slot : ℕ) → AreDistinct ((free ++ slot ∷ []) ++ spares)
    → AreDistinct (free ++ (spares ++ slot ∷ []))
distinct_moved [] spares slot apart = distinct_last slot spares apart.0 apart.1
distinct_moved (x ∷ free) spares slot apart =
    let out = in_neither x (free ++ slot ∷ []) spares apart.0 in
    let front = in_neither x free (slot ∷ []) out.0 in (
      not_in_both x free (spares ++ slot ∷ []) front.0 (not_in_both x spares (slot ∷ []) out.1 front.1),
      distinct_moved free spares slot apart.1,
    )
