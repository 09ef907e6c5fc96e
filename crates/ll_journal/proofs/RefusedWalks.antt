-- A walk whose call is refused: the step leaves the tree as it is, and nobody is overtaken.
use Rattle.std.specs.Prelude.{◌≡◌, ◌<◌, ℕ, zero, suc, Bool, true, false, ◌||◌, List, [], ◌∷◌, map, length, Option, Some}
use Rattle.std.specs.Prelude.{None, option_map, slice_get, slice_set, refl}
use Rattle.std.proofs.Common.{sym, subst, ap, ◌∙◌, arith, inl}
use Rattle.ll_rights.specs.declared.errno.Errno.{Errno}
use Rattle.ll_node.proofs.GivenSlots.{client_stays}
use Rattle.ll_node.specs.declared.held.Held.{Held}
use Rattle.ll_node.specs.InodeTable.{IsTable}
use Rattle.ll_laws.proofs.Gain.{done_of}
use Rattle.ll_seq.specs.declared.call.Call.{Call}
use Rattle.ll_seq.specs.declared.call.Call.TheVariants as calls
use Rattle.ll_seq.specs.declared.client.ClientRecord.{ClientRecord}
use Rattle.ll_seq.specs.declared.reply.Reply.{Reply}
use Rattle.ll_seq.specs.declared.reply.Reply.TheVariants.{Refused}
use Rattle.ll_seq.specs.History.{Log}
use Rattle.ll_seq.specs.State.{State}
use Rattle.ll_seq.specs.Step.{step, client_of, first_or, refusals}
use Rattle.ll_laws.specs.Walk.{Walk}
use Rattle.ll_laws.specs.World.{World, is_full, next_number, overtaken, reply_to, shown, without_walk}
use Rattle.ll_journal.specs.declared.journal.Journal.TheInside.{Inside}
use Rattle.ll_journal.specs.Book.{Seat, Spares, slot_of}
use Rattle.ll_journal.specs.declared.progress.Ending.TheVariants.{Replied}
use Rattle.ll_journal.specs.WalkEnds.{Ends}
use Rattle.ll_journal.specs.Kept.{IsKept, book_of, spares_of, world_of}
use Rattle.ll_journal.specs.Performed.{IsPerformed, at_seat}
use Rattle.ll_journal.specs.Stopped.{IsBlockedEnd}
use Rattle.ll_journal.proofs.AtAnswers.{spare_at}
use Rattle.ll_journal.proofs.Committed.{IsCommitted, committed_kept, committed_lent, committed_spares, committed_step}
use Rattle.ll_journal.proofs.Committed.{scene_at, spares_set, told_slots}
use Rattle.ll_journal.proofs.StaleWalks.{overtaken_seats}
use Rattle.ll_journal.proofs.OwnSteps.{entered, set_again, there}

-- ---- the step

abbrev is_refused : Reply → Bool
is_refused (Refused errno) = true
is_refused _ = false

-- what is done isn't refused
done_not_refused : (s : State) (number : ℕ) (c : ClientRecord) (call : Call) (fresh : ℕ)
    → is_refused (done_of s number c call fresh).0 ≡ false
done_not_refused s number c (calls.Make kind t) fresh = refl
done_not_refused s number c (calls.Open mode t) fresh = refl
done_not_refused s number c (calls.Read fd offset count) fresh = refl
done_not_refused s number c (calls.Write fd offset bytes) fresh = refl
done_not_refused s number c (calls.Ftruncate fd size) fresh = refl
done_not_refused s number c (calls.Close fd) fresh = refl
done_not_refused s number c (calls.Truncate t size) fresh = refl
done_not_refused s number c (calls.ReadDir t) fresh = refl
done_not_refused s number c (calls.Stat t) fresh = refl
done_not_refused s number c (calls.Exec t) fresh = refl
done_not_refused s number c (calls.Unlink t) fresh = refl
done_not_refused s number c (calls.Rmdir t) fresh = refl
done_not_refused s number c (calls.Rename o n) fresh = refl
done_not_refused s number c (calls.RenameNoreplace o n) fresh = refl
done_not_refused s number c (calls.Exchange o n) fresh = refl
done_not_refused s number c (calls.Link o n) fresh = refl
done_not_refused s number c (calls.Ruleset rights) fresh = refl
done_not_refused s number c (calls.Allow rs t rights) fresh = refl
done_not_refused s number c (calls.Confine rs) fresh = refl
done_not_refused s number c calls.Spawn fresh = refl
done_not_refused s number c calls.Connect fresh = refl

-- a refusal keeps the tree, whatever a client's number would be
pub refused_keeps : (s : State) (number : ℕ) (call : Call) (one : ℕ) (errno : Errno)
    → (step s number call one).0 ≡ Refused errno → (fresh : ℕ)
    → ◌≡◌ {A = Reply × State} (step s number call fresh) (Refused errno, s)
refused_keeps s number call one errno is fresh = by (refusals s (client_of s number) call) is
  where
    by : (rs : List Reply) → (first_or s rs (done_of s number (client_of s number) call one)).0 ≡ Refused errno
        → ◌≡◌ {A = Reply × State} (first_or s rs (done_of s number (client_of s number) call fresh)) (Refused errno, s)
    by [] e = absurd (cc (sym (done_not_refused s number (client_of s number) call one) ∙ ap is_refused e))
    by (reply ∷ more) e = ap (λ r. (r, s)) e

-- ---- the seats

as_it_was : (b : Bool) → (b || false) ≡ b
as_it_was true = refl
as_it_was false = refl

none_overtaken : (o : Option Walk) → option_map (overtaken []) o ≡ o
none_overtaken None = refl
none_overtaken (Some walk) = ap (λ b. Some (record walk { stale = b })) (as_it_was walk.stale)

seats_stay : (seats : List Seat) → overtaken_seats [] seats ≡ seats
seats_stay [] = refl
seats_stay (seat ∷ seats) = let here = none_overtaken seat.walk in let rest = seats_stay seats in
    λ i. record seat { walk = here i } ∷ rest i

-- one seat put back, and nobody overtaken
pub seats_as_were : (seats : List Seat) (place : ℕ) (seat : Seat) → slice_get seats place ≡ Some seat
    → seats ≡ overtaken_seats [] (slice_set seats place seat)
seats_as_were seats place seat at = sym (ap (overtaken_seats []) (set_again seats place seat at) ∙ seats_stay seats)

-- ---- what is made

module _ (i : Inside) (mid : IsKept i) (number place : ℕ) (seat : Seat) (at : slice_get i.seats.items place ≡ Some seat)
    (numbered : number ≡ suc place)
    (slots : List ℕ) (lent : List Held) (told : lent ≡ map (slot_of (book_of i)) slots) where
  abbrev s : State
  s = shown (world_of i)

  pub refusal : (call : Call) (one : ℕ) (errno : Errno) → (step s number call one).0 ≡ Refused errno
      → IsPerformed (scene_at i number place) (at_seat seat i.table slots lent) call (Refused errno)
      (at_seat seat i.table slots lent)
  refusal call one errno is = record {
    after = s;
    steps = refused_keeps s number call one errno is;
    made = record {
      counted = subst (λ kept. IsTable s kept i.table) (ap spares_of (sym (set_again i.seats.items place seat at))
          ∙ spares_set i.seats.items place seat) mid.table;
      next = omega arith;
      clients = client_stays s s number seat.client refl (there i mid number calls.Spawn place seat at numbered);
      told = told ∙ told_slots (book_of i) slots;
      others = λ k out. refl;
      freed = inl (spare_at i.seats.items place seat at, record { inodes = refl; free = refl });
    };
  }

seat_there : (seats : List Seat) (place : ℕ) → place < length seats → (seat : Seat)
    × (slice_get seats place ≡ Some seat)
seat_there [] place lt = absurd (omega (arith, lt))
seat_there (seat ∷ seats) zero lt = (seat, refl)
seat_there (seat ∷ seats) (suc place) lt = seat_there seats place (omega (arith, lt))

-- ---- the refusal is told

-- j: the journal before, i: after the walk's end, log: the history after
module _ (j i : Inside) (h : IsKept j) (mid : IsKept i) (number place : ℕ) (numbered : number ≡ suc place)
    (within : place < length i.seats.items) (slots : List ℕ)
    (lent : List Held) (told : lent ≡ map (slot_of (book_of i)) slots) (errno : Errno)
    (blocked : IsBlockedEnd (book_of j) number slots errno)
    (ended : world_of i ≡ without_walk (world_of j) number) (room_left : is_full (world_of j) ≡ false)
    (call : Call) (call_is : call ≡ blocked.walk.call) (log : Log)
    (pushed : log ≡ entered i number call (Refused errno)) where
  abbrev pub refused_journal : Inside
  refused_journal = record i { history = log }

  abbrev seat : Seat
  seat = (seat_there i.seats.items place within).0

  at : slice_get i.seats.items place ≡ Some seat
  at = (seat_there i.seats.items place within).1

  history : log ≡ entered i number blocked.walk.call (Refused errno)
  history = pushed ∙ ap (λ c. entered i number c (Refused errno)) call_is

  committed : IsCommitted j i refused_journal number place slots lent (Refused errno)
  committed = record {
    h = h;
    mid = mid;
    walk = blocked.walk;
    is = blocked.ends.is;
    may = blocked.ends.may;
    ended = ended;
    room_left = ap is_full ended ∙ room_left;
    old = seat;
    at = at;
    numbered = numbered;
    new = seat;
    idle = refl;
    before = lent;
    performs =
        refusal i mid number place seat at numbered slots lent told blocked.walk.call (next_number (world_of i)) errno
        (ap (λ (v : World). reply_to v number blocked.walk.call) ended ∙ blocked.reply);
    moved = [];
    moves = refl;
    seats = seats_as_were i.seats.items place seat at;
    history = history;
    rules = refl;
    room = refl;
    gate = refl;
  }

  pub refused_kept : IsKept refused_journal
  refused_kept = committed_kept committed

  pub refused_does : Ends (book_of j) number (Replied (Refused errno)) (book_of refused_journal)
  refused_does = (room_left, committed_step committed)

  pub refused_lent : lent ≡ map (slot_of (book_of refused_journal)) slots
  refused_lent = committed_lent committed

  pub refused_spares : Spares (book_of i) (book_of refused_journal) slots
  refused_spares = committed_spares committed
