-- A client's call for itself alone: what the step comes to, and what the journal keeps.
use Rattle.std.specs.Prelude.{◌≡◌, ◌≢◌, ◌⊎◌, ℕ, zero, suc, ◌+◌, ◌<◌, ◌≤◌, Bool, true, false, not, ◌&&◌, List, [], ◌∷◌}
use Rattle.std.specs.Prelude.{◌++◌, length, Option, Some, None, Result, Ok, Err, IfOk, OnErr, is_none, is_some}
use Rattle.std.specs.Prelude.{option_map, option_and_then, unwrap_or, slice_get, slice_set, refl}
use Rattle.std.specs.declared.alloc.AllocError.{AllocError}
use Rattle.std.specs.Option.{option_map_or}
use Rattle.std.specs.Cmp.{nat_cmp_total}
use Rattle.std.specs.FinMap.{nat_cmp-IsAntisymmetric}
use Rattle.std.proofs.Common.{sym, subst, ap, ◌∙◌, inl, inr, arith}
use Rattle.std.proofs.lemmas.List.{length-set}
use Rattle.ll_rights.specs.declared.errno.Errno.TheVariants.{EMFILE, HistoryFull}
use Rattle.ll_rights.specs.declared.limits.TheConstants.{HISTORY_ENTRIES, TREE_CLIENTS}
use Rattle.ll_rights.specs.Map.{get, has, insert, len}
use Rattle.ll_rights.proofs.Maps.{insert_cases}
use Rattle.ll_laws.proofs.Chains.{same_Some}
use Rattle.ll_seq.specs.declared.call.Call.{Call}
use Rattle.ll_seq.specs.declared.call.Call.TheVariants as calls
use Rattle.ll_seq.specs.declared.client.ClientRecord.{ClientRecord}
use Rattle.ll_seq.specs.declared.reply.Reply.{Reply}
use Rattle.ll_seq.specs.declared.reply.Reply.TheVariants as replies
use Rattle.ll_seq.specs.declared.rules.Rules.{Rules}
use Rattle.ll_seq.specs.State.{State, new_client, start}
use Rattle.ll_seq.specs.Step.{step, refusals, client_of}
use Rattle.ll_seq.specs.Effects.{with_client, child_of}
use Rattle.ll_seq.specs.Facts.{AreKept}
use Rattle.ll_seq.specs.History.{Log}
use Rattle.ll_seq.proofs.OpensKept.{kept_client}
use Rattle.ll_laws.specs.Walk.{Walk}
use Rattle.ll_laws.specs.World.{World, NotNow, Replied, advance, shown, is_idle, is_alone, is_full, next_number}
use Rattle.ll_laws.specs.World.{reply_to}
use Rattle.ll_laws.specs.declared.step.Step.TheVariants.{ClientStep}
use Rattle.ll_laws.specs.Sound.{IsSound}
use Rattle.ll_laws.proofs.Shapes.{with_entry}
use Rattle.ll_laws.proofs.OneCall.{unused}
use Rattle.ll_journal.specs.declared.alone.Own.{Own}
use Rattle.ll_journal.specs.declared.alone.Own.TheVariants as owns
use Rattle.ll_journal.specs.declared.alone.RecordCall.{RecordCall}
use Rattle.ll_journal.specs.declared.alone.RecordCall.TheVariants as asked
use Rattle.ll_journal.specs.declared.direct.Made.{Made}
use Rattle.ll_journal.specs.declared.direct.Made.TheVariants as answers
use Rattle.ll_journal.specs.declared.journal.Journal.TheInside.{Inside}
use Rattle.ll_journal.specs.Book.{Seat, Book, Spares}
use Rattle.ll_journal.specs.Direct.{Answers, LeavesSlots, TakesMemory}
use Rattle.ll_journal.specs.Direct.{Starves}
use Rattle.ll_journal.specs.Kept.{AreSeated, IsKept, seat_at, walks_from, world_of, book_of, spares_of}
use Rattle.ll_node.specs.InodeTable.{Table, IsTable}
use Rattle.ll_journal.specs.Own.{Asks, IsOwn, Comes, IsFreeOwn, Spawns, SpawnTells}
use Rattle.ll_journal.proofs.Advances.{direct_not_now, direct_full, direct_replies}
use Rattle.ll_journal.proofs.Answered.{spares_answered, world_is, kept_answered, world_more, kept_more, takes_spare}
use Rattle.ll_journal.proofs.Answered.{few_clients, many_clients}
use Rattle.ll_node.proofs.SlotLists.{set_same, set_other}
use Rattle.ll_journal.proofs.Begun.{walk_at}
use Rattle.ll_journal.proofs.NewClients.{clients_len}
use Rattle.ll_journal.proofs.OwnAnswers.{early_not_free, spawn_free, spawn_refused, spawned}
use Rattle.ll_journal.proofs.Ruled.{rules_stay}
use Rattle.ll_node.proofs.SlotAccounts.{content_of}
use Rattle.ll_journal.proofs.Starved.{alone_takes, starves_by}
use Rattle.ll_journal.proofs.Starts.{sound_after, spares_kept}
use Rattle.ll_journal.proofs.ClientTables.{table_client}

-- ---- whether the call is one for this step

abbrev pub may_ask : Seat → Call → Bool
may_ask seat call = is_none seat.walk && is_alone seat.client call

not_some : {A : Type 0} (o : Option A) → not (is_some o) ≡ is_none o
not_some None = refl
not_some (Some x) = refl

module _ (j : Inside) (h : IsKept j) (number : ℕ) (call : Call) where
  abbrev w : World
  w = world_of j

  abbrev told : Option ClientRecord → Option Walk → Bool
  told client walk = (is_some client && not (is_some walk)) && is_alone (unwrap_or client new_client) call

  pub may_is : (is_idle w number && is_alone (client_of (shown w) number) call)
      ≡ option_map_or (λ (seat : Seat). may_ask seat call) (seat_at j.seats.items number) false
  may_is =
      ap (λ c. told c (get w.walks number)) (h.seated number)
      ∙ ap (told (option_map (λ (seat : Seat). seat.client) (seat_at j.seats.items number)))
      (walk_at j.seats.items number)
      ∙ by (seat_at j.seats.items number)
    where
      by : (o : Option Seat) → told (option_map (λ (seat : Seat). seat.client) o)
          (option_and_then (λ (seat : Seat). seat.walk) o) ≡ option_map_or (λ (seat : Seat). may_ask seat call) o false
      by None = refl
      by (Some seat) = ap (λ b. b && is_alone seat.client call) (not_some seat.walk)

  may_not : option_map_or (λ (seat : Seat). may_ask seat call) (seat_at j.seats.items number) false ≡ false
      → advance w (ClientStep number call) ≡ (NotNow, w)
  may_not e = direct_not_now w number (is_alone (client_of (shown w) number) call) call (may_is ∙ e)

  module _ (place : ℕ) (seat : Seat) (at : slice_get j.seats.items place ≡ Some seat) (numbered : number ≡ suc place)
    where
      pub stands : seat_at j.seats.items number ≡ Some seat
      stands = ap (seat_at j.seats.items) numbered ∙ at

      pub not_own : may_ask seat call ≡ false → advance w (ClientStep number call) ≡ (NotNow, w)
      not_own e = may_not (ap (λ o. option_map_or (λ (seat : Seat). may_ask seat call) o false) stands ∙ e)

      pub there : get (shown w).clients number ≡ Some seat.client
      there = h.seated number ∙ ap (option_map (λ (s : Seat). s.client)) stands

      module _ (idle : seat.walk ≡ None) (alone : is_alone seat.client call ≡ true) where
        may : (is_idle w number && is_alone (client_of (shown w) number) call) ≡ true
        may = may_is ∙ ap (λ o. option_map_or (λ (seat : Seat). may_ask seat call) o false) stands
            ∙ (λ i. is_none (idle i) && alone i)

        pub step_full : is_full w ≡ true
            → advance w (ClientStep number call) ≡ (Replied (replies.Refused HistoryFull), w)
        step_full full = direct_full w number (is_alone (client_of (shown w) number) call) call may full

        pub step_replies : (reply : Reply) → is_full w ≡ false → reply ≡ reply_to w number call
            → advance w (ClientStep number call) ≡ (Replied reply, with_entry w number call reply)
        step_replies reply room is = direct_replies w number (is_alone (client_of (shown w) number) call) call may room
            ∙ (λ i. (Replied (sym is i), with_entry w number call (sym is i)))

pub asks_alone : (c : ClientRecord) (call : Call) (what : RecordCall) → Asks c call what → is_alone c call ≡ true
asks_alone c call (asked.Ruleset rights) is = ap (is_alone c) is
asks_alone c call (asked.Confine number) is = ap (is_alone c) is
asks_alone c call (asked.Refused errno) is = is.0

-- ---- the seats

-- another record in the seat, and the same walk
pub walks_same : (seats : List Seat) (place : ℕ) (old new : Seat) (first : ℕ) → slice_get seats place ≡ Some old
    → new.walk ≡ old.walk → walks_from first (slice_set seats place new) ≡ walks_from first seats
walks_same [] place old new first at same = refl
walks_same (z ∷ seats) zero old new first at same =
    ap (λ o. option_map_or (λ (walk : Walk). insert (walks_from (first + 1) seats) first walk) o
    (walks_from (first + 1) seats)) (same ∙ ap (λ (x : Seat). x.walk) (sym (same_Some z old at)))
walks_same (z ∷ seats) (suc place) old new first at same =
    ap (λ m. option_map_or (λ (walk : Walk). insert m first walk) z.walk m)
    (walks_same seats place old new (first + 1) at same)

pub seated_put : (s : State) (seats : List Seat) (place number : ℕ) (old new : Seat) → slice_get seats place ≡ Some old
    → number ≡ suc place → AreSeated s seats → AreSeated (with_client s number new.client) (slice_set seats place new)
seated_put s seats place number old new at numbered seated q =
    by (insert_cases nat_cmp_total nat_cmp-IsAntisymmetric s.clients number new.client q)
  where
    client_in : Option Seat → Option ClientRecord
    client_in = option_map (λ (seat : Seat). seat.client)

    other : (q : ℕ) → q ≢ number → seat_at (slice_set seats place new) q ≡ seat_at seats q
    other zero n = refl
    other (suc i) n = set_other seats place i new (λ e. n (ap suc (sym e) ∙ sym numbered))

    by : ((q ≡ number) × (get (insert s.clients number new.client) q ≡ Some new.client))
        ⊎ ((q ≢ number) × (get (insert s.clients number new.client) q ≡ get s.clients q))
        → get (insert s.clients number new.client) q
        ≡ option_map (λ (seat : Seat). seat.client) (seat_at (slice_set seats place new) q)
    by (inl a) = a.1 ∙ sym (ap (option_map (λ (seat : Seat). seat.client))
        (ap (seat_at (slice_set seats place new)) (a.0 ∙ numbered) ∙ set_same seats place old new at))
    by (inr a) = a.1 ∙ seated q ∙ sym (ap (option_map (λ (seat : Seat). seat.client)) (other q a.0))

same_spares : (b b' : Book) → b' ≡ b → Spares b b' []
same_spares b b' e = subst (λ x. Spares b x []) (sym e) (record { limit = refl; size = refl; slots = λ j out. refl })

replied_so : (b b' : Book) (number : ℕ) (call : Call) (answer : Made) (reply : Reply) → answer ≡ answers.Replied reply
    → is_full b.world ≡ false → advance b.world (ClientStep number call) ≡ (Replied reply, b'.world)
    → Answers b (ClientStep number call) answer b'
replied_so b b' number call answer reply is room e =
    subst (λ a. Answers b (ClientStep number call) a b') (sym is) (room, e)

starved_so : (b b' : Book) (number : ℕ) (call : Call) (answer : Made) → answer ≡ answers.NoMemory → b' ≡ b
    → Starves b.world (ClientStep number call) → Answers b (ClientStep number call) answer b'
starved_so b b' number call answer is e starves =
    subst (λ a. Answers b (ClientStep number call) a b') (sym is) (e, starves)

-- with the same items nothing has changed
module _ (j k : Inside) (rules : k.rules ≡ j.rules) (room : k.room ≡ j.room) (gate : k.gate ≡ j.gate)
    (history : k.history ≡ j.history) (seats : k.seats.items ≡ j.seats.items) (table : k.table ≡ j.table) where
  pub world_unchanged : world_of k ≡ world_of j
  world_unchanged = λ i. record {
    rules = rules i;
    room = room i;
    limit = (history i).limit;
    history = (history i).entries;
    walks = walks_from 1 (seats i);
    gate = gate i;
  }

  pub book_unchanged : book_of k ≡ book_of j
  book_unchanged = λ i. record {
    world = world_unchanged i;
    inodes = (table i).inodes;
    free = (table i).free;
    spares = spares_of (seats i);
  }

  pub kept_unchanged : IsKept j → IsKept k
  kept_unchanged h = record {
    sound = subst IsSound (sym world_unchanged) h.sound;
    seated = subst (λ s. AreSeated s k.seats.items) (sym tree)
        (subst (AreSeated (shown (world_of j))) (sym seats) h.seated);
    table = subst (λ (p : State × (List ℕ × Table)). IsTable p.0 p.1.0 p.1.1)
        (λ i. (sym tree i, (spares_of (sym seats i), sym table i))) h.table;
    crowd = subst (λ (xs : List Seat). length xs ≤ TREE_CLIENTS) (sym seats) h.crowd;
    numbers = subst (λ (p : Table × Log). p.0.next ≤ length p.1.entries + 2) (λ i. (sym table i, sym history i))
        h.numbers;
    small = subst (λ (log : Log). log.limit ≤ HISTORY_ENTRIES) (sym history) h.small;
  }
    where
      tree : shown (world_of k) ≡ shown (world_of j)
      tree = ap shown world_unchanged

pub set_again : (seats : List Seat) (place : ℕ) (seat : Seat) → slice_get seats place ≡ Some seat
    → slice_set seats place seat ≡ seats
set_again [] place seat at = refl
set_again (z ∷ seats) zero seat at = ap (λ x. x ∷ seats) (sym (same_Some z seat at))
set_again (z ∷ seats) (suc place) seat at = ap (λ xs. z ∷ xs) (set_again seats place seat at)

-- ---- a call on the client's record

-- what the whole step is to show
pub record Stepped (b : Book) (number : ℕ) (call : Call) (answer : Made) (k : Inside) : Type 0 where
  pub kept : IsKept k
  pub does : Answers b (ClientStep number call) answer (book_of k)
  pub spares : Spares b (book_of k) []
  pub calm : answer ≡ answers.NoMemory → TakesMemory call
  pub rest : LeavesSlots call b (book_of k)

replied_calm : (answer : Made) (call : Call) (reply : Reply) → answer ≡ answers.Replied reply
    → answer ≡ answers.NoMemory → TakesMemory call
replied_calm answer call reply is starved = absurd (cc (sym is ∙ starved))

-- what a call on the record takes memory for
record_calm : (s : State) (number : ℕ) (c : ClientRecord) → get s.clients number ≡ Some c
    → (call : Call) (what : RecordCall) → Asks c call what → refusals s c call ≡ [] → TakesMemory call
record_calm s number c here call (asked.Ruleset rights) is free = inl (rights, is)
record_calm s number c here call (asked.Confine layer) is free = inr (inl (layer, is))
record_calm s number c here call (asked.Refused e) is free = absurd (early_not_free s number c here call e is.1 free)

abbrev pub entered : Inside → ℕ → Call → Reply → Log
entered j number call reply =
    record j.history { entries = j.history.entries ++ record { client = number; call = call; reply = reply } ∷ [] }

module _ (j k : Inside) (h : IsKept j) (number : ℕ) (call : Call) (place : ℕ) (old : Seat)
    (at : slice_get j.seats.items place ≡ Some old) (numbered : number ≡ suc place)
    (idle : old.walk ≡ None) (room_left : is_full (world_of j) ≡ false) (answer : Made)
    (rules : k.rules ≡ j.rules) (room : k.room ≡ j.room) (gate : k.gate ≡ j.gate) where
  abbrev before : State
  before = shown (world_of j)

  rules_are : before.rules ≡ j.rules
  rules_are = rules_stay (start j.rules j.room) j.history.entries

  -- the record is another
  module _ (new : Seat) (seats : k.seats.items ≡ slice_set j.seats.items place new) (table : k.table ≡ j.table)
      (rest : new ≡ record old { client = new.client }) where
    walk_is : new.walk ≡ old.walk
    walk_is = ap (λ (s : Seat). s.walk) rest

    spare_is : new.spare ≡ old.spare
    spare_is = ap (λ (s : Seat). s.spare) rest

    walks_are : walks_from 1 k.seats.items ≡ walks_from 1 j.seats.items
    walks_are = ap (walks_from 1) seats ∙ walks_same j.seats.items place old new 1 at walk_is

    spares_are : spares_of k.seats.items ≡ spares_of j.seats.items
    spares_are = ap spares_of seats ∙ spares_kept j.seats.items place old new at spare_is

    slots_stay : book_of k ≡ record (book_of j) { world = world_of k }
    slots_stay = λ i. record {
      world = world_of k;
      inodes = (table i).inodes;
      free = (table i).free;
      spares = spares_are i;
    }

    module _ (alone : is_alone old.client call ≡ true) (reply : Reply)
        (comes_so : step before number call (next_number (world_of j)) ≡ (reply, with_client before number new.client))
        (same : new.client.descriptors ≡ old.client.descriptors)
        (history : k.history ≡ entered j number call reply) (is : answer ≡ answers.Replied reply) where
      told_so : reply ≡ reply_to (world_of j) number call
      told_so = sym (ap (λ (p : Reply × State). p.0) comes_so)

      after : (step before number call (next_number (world_of j))).1 ≡ with_client before number new.client
      after = ap (λ (p : Reply × State). p.1) comes_so

      world_so : world_of k ≡ with_entry (world_of j) number call reply
      world_so = world_is j k h number call reply told_so rules room gate history walks_are

      advances : advance (world_of j) (ClientStep number call) ≡ (Replied reply, world_of k)
      advances = step_replies j h number call place old at numbered idle alone reply room_left told_so
          ∙ ap (λ (v : World). (Replied reply, v)) (sym world_so)

      counted : AreKept (with_client before number new.client) j.table.facts
      counted = kept_client before j.table.facts j.table.facts number old.client h.table.facts
          (there j h number call place old at numbered) new.client same

      kept_so : IsKept k
      kept_so =
          kept_answered j k h number call reply told_so rules room gate history walks_are
          (with_client before number new.client) after
          (sound_after j (world_of k) (ClientStep number call) (Replied reply) h advances)
          (subst (AreSeated (with_client before number new.client)) (sym seats)
          (seated_put before j.seats.items place number old new at numbered h.seated))
          (subst (λ (p : List ℕ × Table). IsTable (with_client before number new.client) p.0 p.1)
          (λ i. (sym spares_are i, sym table i))
          (table_client before number new.client (spares_of j.seats.items) j.table h.table counted))
          (subst (λ n. n ≤ TREE_CLIENTS) (sym (ap length seats ∙ length-set j.seats.items place new)) h.crowd)
          (let next = ap (λ (t : Table). t.next) table in omega (arith, next))

      answered_so : Stepped (book_of j) number call answer k
      answered_so = record {
        kept = kept_so;
        does = replied_so (book_of j) (book_of k) number call answer reply is room_left advances;
        spares = spares_answered (book_of j) (book_of k) number call reply h.sound kept_so.sound world_so told_so
            (ap (λ (t : Table). t.inodes) table) (λ i. ap (λ s. content_of s i) after);
        calm = replied_calm answer call reply is;
        rest = inl slots_stay;
      }

  -- memory ran out
  starves : is_alone old.client call ≡ true → refusals before old.client call ≡ [] → TakesMemory call
      → Starves (world_of j) (ClientStep number call)
  starves alone free takes =
      starves_by (world_of j) (with_entry (world_of j) number call (reply_to (world_of j) number call))
      (ClientStep number call) number call refl
      (step_replies j h number call place old at numbered idle alone (reply_to (world_of j) number call) room_left refl)
      room_left
      (record {
        takes = alone_takes call takes;
        passes = ap (λ (o : Option ClientRecord). refusals before (unwrap_or o new_client) call)
            (there j h number call place old at numbered) ∙ free;
      })

  starved : k.seats.items ≡ j.seats.items → k.table ≡ j.table → k.history ≡ j.history → answer ≡ answers.NoMemory
      → is_alone old.client call ≡ true → refusals before old.client call ≡ [] → TakesMemory call
      → Stepped (book_of j) number call answer k
  starved seats table history is alone free takes =
      let same = book_unchanged j k rules room gate history seats table in
      record {
        kept = kept_unchanged j k rules room gate history seats table h;
        does = starved_so (book_of j) (book_of k) number call answer is same (starves alone free takes);
        spares = same_spares (book_of j) (book_of k) same;
        calm = λ e. takes;
        rest = inl (same ∙ ap (λ v. record (book_of j) { world = v })
            (sym (world_unchanged j k rules room gate history seats table)));
      }

  pub on_record : (new : Seat) → k.seats.items ≡ slice_set j.seats.items place new → k.table ≡ j.table
      → new ≡ record old { client = new.client } → (what : RecordCall) → Asks old.client call what
      → (told : Result Reply AllocError) → IfOk told (λ reply. Comes j.rules.abi old.client what reply new.client)
      → new.client.descriptors ≡ old.client.descriptors → OnErr told (new ≡ old)
      → OnErr told (IsFreeOwn j.rules.abi old.client what)
      → IfOk told (λ reply. (answer ≡ answers.Replied reply) × (k.history ≡ entered j number call reply))
      → OnErr told ((answer ≡ answers.NoMemory) × (k.history ≡ j.history))
      → Stepped (book_of j) number call answer k
  on_record new seats table rest what asks (Ok reply) comes same err free ok bad =
      answered_so new seats table rest (asks_alone old.client call what asks) reply
      (comes call asks before number (next_number (world_of j)) (ap (λ (r : Rules). r.abi) rules_are)
      (there j h number call place old at numbered)) same ok.1 ok.0
  on_record new seats table rest what asks (Err e) comes same err free ok bad =
      let here = there j h number call place old at numbered in
      let granted = free call asks before number (ap (λ (r : Rules). r.abi) rules_are) here in
      starved (seats ∙ ap (slice_set j.seats.items place) err ∙ set_again j.seats.items place old at) table bad.1 bad.0
      (asks_alone old.client call what asks) granted (record_calm before number old.client here call what asks granted)

  -- ---- a client is spawned

  module _ (spawn : call ≡ calls.Spawn) where
    alone_so : is_alone old.client call ≡ true
    alone_so = ap (is_alone old.client) spawn

    here : get before.clients number ≡ Some old.client
    here = there j h number call place old at numbered

    crowded : TREE_CLIENTS ≤ length j.seats.items → (reply : Reply) → reply ≡ replies.Refused EMFILE
        → k.seats.items ≡ j.seats.items → k.table ≡ j.table → k.history ≡ entered j number call reply
        → answer ≡ answers.Replied reply → Stepped (book_of j) number call answer k
    crowded many reply told seats table history is =
        answered_so old (seats ∙ sym (set_again j.seats.items place old at)) table refl alone_so reply
        (ap (λ c. step before number c (next_number (world_of j))) spawn
        ∙ spawn_refused before number (next_number (world_of j)) old.client here
        (many_clients (len before.clients) (length j.seats.items) (clients_len before j.seats.items h.seated) many)
        ∙ ap (λ r. (r, with_client before number old.client)) (sym told))
        refl history is

    module _ (few : length j.seats.items < TREE_CLIENTS) (born : ℕ) (reply : Reply)
        (told : reply ≡ replies.Spawned born)
        (spawns : Spawns j.rules place j.seats.items j.table born k.seats.items k.table)
        (history : k.history ≡ entered j number call reply) (is : answer ≡ answers.Replied reply) where
      parent_is : spawns.parent ≡ old
      parent_is = same_Some spawns.parent old (sym spawns.there ∙ at)

      abbrev seat : Seat
      seat = record { client = child_of j.rules spawns.parent.client; spare = spawns.spare; walk = None }

      next_is : born ≡ next_number (world_of j)
      next_is = spawns.numbered ∙ ap (λ n. n + 1) (sym (clients_len before j.seats.items h.seated))

      steps : step before number call (next_number (world_of j))
          ≡ (
            replies.Spawned (next_number (world_of j)),
            with_client before (next_number (world_of j)) (child_of before.rules old.client),
          )
      steps =
          ap (λ c. step before number c (next_number (world_of j))) spawn
          ∙ spawned before number (next_number (world_of j)) old.client here
          (few_clients (len before.clients) (length j.seats.items) (clients_len before j.seats.items h.seated) few)

      told_is : reply ≡ reply_to (world_of j) number call
      told_is = told ∙ ap replies.Spawned next_is ∙ sym (ap (λ (p : Reply × State). p.0) steps)

      after_spawn : (step before number call (next_number (world_of j))).1
          ≡ with_client before (next_number (world_of j)) (child_of j.rules spawns.parent.client)
      after_spawn = ap (λ (p : Reply × State). p.1) steps
          ∙ (λ i. with_client before (next_number (world_of j)) (child_of (rules_are i) (sym parent_is i).client))

      world_spawned : world_of k ≡ with_entry (world_of j) number call reply
      world_spawned = world_more j k h number call reply told_is rules room gate history seat refl spawns.seats-are
          spawns.free-is after_spawn

      advances_so : advance (world_of j) (ClientStep number call) ≡ (Replied reply, world_of k)
      advances_so = step_replies j h number call place old at numbered idle alone_so reply room_left told_is
          ∙ ap (λ (v : World). (Replied reply, v)) (sym world_spawned)

      kept_spawned : IsKept k
      kept_spawned =
          kept_more j k h number call reply told_is rules room gate history seat refl spawns.seats-are spawns.free-is
          after_spawn
          (sound_after j (world_of k) (ClientStep number call) (Replied reply) h advances_so)
          (subst (λ n. AreKept (with_client before n (child_of j.rules spawns.parent.client)) k.table.facts) next_is
          (spawns.facts-are before number h.table.facts rules_are (here
          ∙ ap (λ (s : Seat). Some s.client) (sym parent_is)) (ap (has before.clients) next_is
          ∙ unused before h.sound.numbers)))
          spawns.rest-is few

      one_more : Stepped (book_of j) number call answer k
      one_more = record {
        kept = kept_spawned;
        does = replied_so (book_of j) (book_of k) number call answer reply is room_left advances_so;
        spares = spares_answered (book_of j) (book_of k) number call reply h.sound kept_spawned.sound world_spawned
            told_is (ap (λ (t : Table). t.inodes) spawns.rest-is) (λ i. ap (λ s. content_of s i) after_spawn);
        calm = replied_calm answer call reply is;
        rest = inr (
          spawn,
          takes_spare j k h number call reply told_is rules room gate history seat refl
              spawns.seats-are spawns.free-is after_spawn (ap (λ (t : Table). t.inodes) spawns.rest-is),
        );
      }

    pub on_spawn : (told : Result Reply AllocError)
        → IfOk told (SpawnTells j.rules place j.seats.items j.table k.seats.items k.table)
        → OnErr told ((k.seats.items ≡ j.seats.items) × (k.table ≡ j.table))
        → OnErr told (length j.seats.items < TREE_CLIENTS)
        → IfOk told (λ reply. (answer ≡ answers.Replied reply) × (k.history ≡ entered j number call reply))
        → OnErr told ((answer ≡ answers.NoMemory) × (k.history ≡ j.history))
        → Stepped (book_of j) number call answer k
    on_spawn (Ok reply) (inl a) err few ok bad = crowded a.0 reply a.1 a.2 a.3 ok.1 ok.0
    on_spawn (Ok reply) (inr a) err few ok bad = one_more a.0 a.1 reply a.2 a.3 ok.1 ok.0
    on_spawn (Err e) tells err few ok bad =
        starved err.0 err.1 bad.1 bad.0 alone_so
        (ap (refusals before old.client) spawn
        ∙ spawn_free before number (next_number (world_of j)) old.client here
        (few_clients (len before.clients) (length j.seats.items) (clients_len before j.seats.items h.seated) few))
        (inr (inr spawn))

-- ---- as the code finds it

pub over_stepped : (b b' : Book) (number : ℕ) (call : Call) (answer : Made) (k : Inside) → b ≡ b'
    → Stepped b number call answer k → Stepped b' number call answer k
over_stepped b b' number call answer k e h = subst (λ (b : Book). Stepped b number call answer k) e h

pub over_not_now : (b b' : Book) (number : ℕ) (call : Call) → b ≡ b'
    → advance b.world (ClientStep number call) ≡ (NotNow, b.world)
    → advance b'.world (ClientStep number call) ≡ (NotNow, b'.world)
over_not_now b b' number call e h =
    subst (λ (b : Book). advance b.world (ClientStep number call) ≡ (NotNow, b.world)) e h

pub over_full : (b b' : Book) (number : ℕ) (call : Call) → b ≡ b'
    → advance b.world (ClientStep number call) ≡ (Replied (replies.Refused HistoryFull), b.world)
    → advance b'.world (ClientStep number call) ≡ (Replied (replies.Refused HistoryFull), b'.world)
over_full b b' number call e h =
    subst (λ (b : Book). advance b.world (ClientStep number call) ≡ (Replied (replies.Refused HistoryFull), b.world)) e
    h

-- what the call asks is one for the client alone
pub own_alone : (c : ClientRecord) (call : Call) (own : Own) → IsOwn c call (Some own) → is_alone c call ≡ true
own_alone c call owns.Spawn is = ap (is_alone c) is
own_alone c call (owns.OnRecord what) is = asks_alone c call what is
