-- What the journal keeps, and each slot's account, where a call without a walk was answered.
use Rattle.std.specs.Prelude.{◌≡◌, ℕ, ◌+◌, ◌<◌, ◌≤◌, true, false, [], ◌∷◌, ◌++◌, length, None, nat_le, refl}
use Rattle.std.proofs.Common.{sym, subst, ap, ◌∙◌, arith, length-append}
use Rattle.std.proofs.lemmas.Bool.Decides.{nat_tests}
use Rattle.ll_rights.specs.declared.limits.TheConstants.{HISTORY_ENTRIES, TREE_CLIENTS}
use Rattle.ll_rights.specs.Map.{len}
use Rattle.ll_seq.specs.declared.call.Call.{Call}
use Rattle.ll_seq.specs.declared.call.Call.TheVariants.{Connect}
use Rattle.ll_seq.specs.declared.client.ClientRecord.{ClientRecord}
use Rattle.ll_seq.specs.declared.reply.Reply.{Reply}
use Rattle.ll_seq.specs.declared.reply.Reply.TheVariants.{Done}
use Rattle.ll_seq.specs.State.{State, new_client}
use Rattle.ll_seq.specs.Step.{step}
use Rattle.ll_seq.specs.Effects.{with_client}
use Rattle.ll_seq.specs.Facts.{AreKept}
use Rattle.ll_seq.specs.History.{Log}
use Rattle.ll_seq.proofs.OpensKept.{kept_connect}
use Rattle.ll_laws.specs.World.{World, Joined, advance, shown, is_full, next_number, reply_to}
use Rattle.ll_laws.specs.declared.step.Step.TheVariants.{Join}
use Rattle.ll_laws.specs.Sound.{IsSound}
use Rattle.ll_laws.proofs.Shapes.{with_entry}
use Rattle.ll_laws.proofs.OneCall.{unused}
use Rattle.ll_journal.specs.declared.journal.Journal.TheInside.{Inside}
use Rattle.ll_node.specs.declared.held.Held.{Held}
use Rattle.ll_journal.specs.Book.{Seat, Book, Spares, inode_in, held_of, mark_of}
use Rattle.ll_journal.specs.Direct.{TakesSpare}
use Rattle.ll_journal.specs.Kept.{AreSeated, IsKept, walks_from, world_of, book_of, spares_of}
use Rattle.ll_node.specs.InodeTable.{Table, IsTable}
use Rattle.ll_journal.proofs.Advances.{join_done}
use Rattle.ll_journal.proofs.NewClients.{clients_len, seated_more, walks_more, spares_more}
use Rattle.ll_journal.proofs.ClientTables.{table_more}
use Rattle.ll_journal.proofs.HeldAfter.{held_answered}
use Rattle.ll_journal.proofs.LentSlots.{slot_kept}
use Rattle.ll_journal.proofs.OwnAnswers.{connect_done}
use Rattle.ll_journal.proofs.Shown.{shown_answered}
use Rattle.ll_node.proofs.SlotAccounts.{content_of}
use Rattle.ll_journal.proofs.Starts.{sound_after}

-- ---- accounts

-- where names and bytes stay, each slot's does
pub spares_answered : (b b' : Book) (number : ℕ) (call : Call) (reply : Reply) → IsSound b.world → IsSound b'.world
    → b'.world ≡ with_entry b.world number call reply → reply ≡ reply_to b.world number call → b'.inodes ≡ b.inodes
    → ((i : ℕ) → content_of (step (shown b.world) number call (next_number b.world)).1 i ≡ content_of (shown b.world) i)
    → Spares b b' []
spares_answered b b' number call reply sound later world told inodes content = record {
  limit = ap (λ (w : World). w.limit) world;
  size = ap length inodes;
  slots = λ j out. slot_kept b b' j (ap (λ ns. inode_in (record b' { inodes = ns }) j) inodes) (λ some.
      ap (λ w. held (inode_in b j) w) is
      ∙ held_answered b.world number call sound (subst IsSound is later) (inode_in b j)
      ∙ ap (λ s. record { inode = inode_in b j; node = record s { mark = mark_of b.world (inode_in b j) } })
      (content (inode_in b j)));
}
  where
    is : b'.world ≡ with_entry b.world number call (reply_to b.world number call)
    is = world ∙ ap (with_entry b.world number call) told

    held : ℕ → World → Held
    held i w = held_of w i

-- ---- what is kept

-- one entry more, and no other walk
module _ (j k : Inside) (h : IsKept j) (number : ℕ) (call : Call) (reply : Reply)
    (told : reply ≡ reply_to (world_of j) number call)
    (rules : k.rules ≡ j.rules) (room : k.room ≡ j.room) (gate : k.gate ≡ j.gate)
    (history : k.history ≡ record j.history
    { entries = j.history.entries ++ record { client = number; call = call; reply = reply } ∷ [] })
    (walks : walks_from 1 k.seats.items ≡ walks_from 1 j.seats.items) where
  pub world_is : world_of k ≡ with_entry (world_of j) number call reply
  world_is = λ i. record {
    rules = rules i;
    room = room i;
    limit = (history i).limit;
    history = (history i).entries;
    walks = walks i;
    gate = gate i;
  }

  tree_is : shown (world_of k) ≡ (step (shown (world_of j)) number call (next_number (world_of j))).1
  tree_is = shown_answered (world_of j) (world_of k) number call reply told rules room
      (ap (λ (log : Log). log.entries) history)

  -- the tree after, its clients in their seats, and its table
  pub kept_answered : (t : State) → (step (shown (world_of j)) number call (next_number (world_of j))).1 ≡ t
      → IsSound (world_of k) → AreSeated t k.seats.items → IsTable t (spares_of k.seats.items) k.table
      → length k.seats.items ≤ TREE_CLIENTS → k.table.next ≤ j.table.next + 1 → IsKept k
  kept_answered t after sound seated table crowd next = record {
    sound = sound;
    seated = subst (λ s. AreSeated s k.seats.items) (sym is) seated;
    table = subst (λ s. IsTable s (spares_of k.seats.items) k.table) (sym is) table;
    crowd = crowd;
    numbers =
        let longer = ap (λ (log : Log). length log.entries) history
        ∙ length-append j.history.entries (record { client = number; call = call; reply = reply } ∷ []) in
        let before = h.numbers in
        omega (arith, longer, before, next);
    small = subst (λ (log : Log). log.limit ≤ HISTORY_ENTRIES) (sym history) h.small;
  }
    where
      is : shown (world_of k) ≡ t
      is = tree_is ∙ after

-- and one client more
module _ (j k : Inside) (h : IsKept j) (number : ℕ) (call : Call) (reply : Reply)
    (told : reply ≡ reply_to (world_of j) number call)
    (rules : k.rules ≡ j.rules) (room : k.room ≡ j.room) (gate : k.gate ≡ j.gate)
    (history : k.history ≡ record j.history
    { entries = j.history.entries ++ record { client = number; call = call; reply = reply } ∷ [] })
    (seat : Seat) (idle : seat.walk ≡ None) (seats : k.seats.items ≡ j.seats.items ++ seat ∷ [])
    (free : j.table.free ≡ k.table.free ++ seat.spare ∷ [])
    (after : (step (shown (world_of j)) number call (next_number (world_of j))).1
    ≡ with_client (shown (world_of j)) (next_number (world_of j)) seat.client) where
  walks_are : walks_from 1 k.seats.items ≡ walks_from 1 j.seats.items
  walks_are = ap (walks_from 1) seats ∙ walks_more j.seats.items seat 1 idle

  pub world_more : world_of k ≡ with_entry (world_of j) number call reply
  world_more = world_is j k h number call reply told rules room gate history walks_are

  pub kept_more : IsSound (world_of k)
      → AreKept (with_client (shown (world_of j)) (next_number (world_of j)) seat.client) k.table.facts
      → k.table ≡ record j.table { facts = k.table.facts; free = k.table.free } → length j.seats.items < TREE_CLIENTS
      → IsKept k
  kept_more sound facts table few =
      let numbered : next_number (world_of j) ≡ length j.seats.items + 1 =
      ap (λ n. n + 1) (clients_len (shown (world_of j)) j.seats.items h.seated) in
      let one_seat : length k.seats.items ≡ length j.seats.items + 1 =
      ap length seats ∙ length-append j.seats.items (seat ∷ []) in
      let same_next : k.table.next ≡ j.table.next = ap (λ (t : Table). t.next) table in
      kept_answered j k h number call reply told rules room gate history walks_are
      (with_client (shown (world_of j)) (next_number (world_of j)) seat.client) after sound
      (subst (AreSeated (with_client (shown (world_of j)) (next_number (world_of j)) seat.client)) (sym seats)
      (seated_more (shown (world_of j)) j.seats.items seat (next_number (world_of j)) numbered h.seated))
      (subst (λ ks. IsTable (with_client (shown (world_of j)) (next_number (world_of j)) seat.client) ks k.table)
      (sym (ap spares_of seats ∙ spares_more j.seats.items seat))
      (table_more (shown (world_of j)) (next_number (world_of j)) seat.client (spares_of j.seats.items) j.table h.table
      seat.spare k.table free table facts))
      (omega (arith, one_seat, few)) (omega (arith, same_next))

  pub takes_spare : k.table.inodes ≡ j.table.inodes → TakesSpare (book_of j) (book_of k)
  takes_spare inodes = record {
    slot = seat.spare;
    free = free;
    spares = ap spares_of seats
        ∙ spares_more j.seats.items seat;
    inodes = inodes;
  }

-- ---- a connect

pub few_clients : (n m : ℕ) → n ≡ m → m < TREE_CLIENTS → nat_le TREE_CLIENTS n ≡ false
few_clients n m e lt = grind (arith, nat_tests)

pub many_clients : (n m : ℕ) → n ≡ m → TREE_CLIENTS ≤ m → nat_le TREE_CLIENTS n ≡ true
many_clients n m e le = grind (arith, nat_tests)

module _ (j k : Inside) (h : IsKept j) (number spare : ℕ) (client : ClientRecord)
    (room_left : is_full (world_of j) ≡ false) (few : length j.seats.items < TREE_CLIENTS)
    (numbered : number ≡ length j.seats.items + 1) (new : client ≡ new_client)
    (free : j.table.free ≡ k.table.free ++ spare ∷ [])
    (seats : k.seats.items ≡ j.seats.items ++ record { client = client; spare = spare; walk = None } ∷ [])
    (history : k.history ≡ record j.history
    { entries = j.history.entries ++ record { client = number; call = Connect; reply = Done } ∷ [] })
    (rules : k.rules ≡ j.rules) (room : k.room ≡ j.room) (gate : k.gate ≡ j.gate)
    (table : k.table ≡ record j.table { free = k.table.free }) where
  abbrev w : World
  w = world_of j

  next : number ≡ next_number w
  next = numbered ∙ ap (λ n. n + 1) (sym (clients_len (shown w) j.seats.items h.seated))

  abbrev seat : Seat
  seat = record { client = client; spare = spare; walk = None }

  comes : step (shown w) number Connect (next_number w) ≡ (Done, with_client (shown w) number new_client)
  comes = connect_done (shown w) number (next_number w)
      (few_clients (len (shown w).clients) (length j.seats.items) (clients_len (shown w) j.seats.items h.seated) few)

  told : Done ≡ reply_to w number Connect
  told = sym (ap (λ (p : Reply × State). p.0) comes)

  after : (step (shown w) number Connect (next_number w)).1 ≡ with_client (shown w) (next_number w) client
  after = ap (λ (p : Reply × State). p.1) comes ∙ (λ i. with_client (shown w) (next i) (sym new i))

  after_world : world_of k ≡ with_entry w number Connect Done
  after_world = world_more j k h number Connect Done told rules room gate history seat refl seats free after

  pub connect_joined : advance w Join ≡ (Joined number, world_of k)
  connect_joined =
      join_done w room_left (ap (λ n. reply_to w n Connect) (sym next) ∙ sym told)
      ∙ (λ i. (Joined (sym next i), with_entry w (sym next i) Connect Done))
      ∙ ap (λ (v : World). (Joined number, v)) (sym after_world)

  facts_same : k.table.facts ≡ j.table.facts
  facts_same = ap (λ (t : Table). t.facts) table

  pub connect_kept : IsKept k
  connect_kept =
      kept_more j k h number Connect Done told rules room gate history seat refl seats free after
      (sound_after j (world_of k) Join (Joined number) h connect_joined)
      (subst (λ f. AreKept (with_client (shown w) (next_number w) client) f) (sym facts_same)
      (kept_connect (shown w) j.table.facts (next_number w) client h.table.facts (unused (shown w) h.sound.numbers)
      (ap (λ (c : ClientRecord). c.descriptors) new)))
      (table ∙ ap (λ f. record j.table { facts = f; free = k.table.free }) (sym facts_same)) few

  pub connect_spares : Spares (book_of j) (book_of k) []
  connect_spares =
      spares_answered (book_of j) (book_of k) number Connect Done h.sound (connect_kept).sound after_world told
      (ap (λ (t : Table). t.inodes) table)
      (λ i. ap (λ s. content_of s i) after)

-- where a client more may come, the next one would
pub connect_would : (j : Inside) (b : Book) → book_of j ≡ b → IsKept j → is_full (world_of j) ≡ false
    → length j.seats.items < TREE_CLIENTS → (after : World)
    × (advance b.world Join ≡ (Joined (next_number b.world), after))
connect_would j b is h room few =
    let w = world_of j in
    subst (λ (b : Book). (after : World) × (advance b.world Join ≡ (Joined (next_number b.world), after))) is (
      with_entry w (next_number w) Connect Done,
      join_done w room (ap (λ (p : Reply × State). p.0)
          (connect_done (shown w) (next_number w) (next_number w)
          (few_clients (len (shown w).clients) (length j.seats.items) (clients_len (shown w) j.seats.items h.seated)
          few))),
    )

pub over_joined : (b b' : Book) (v : World) (number : ℕ) → b ≡ b' → advance b.world Join ≡ (Joined number, v)
    → advance b'.world Join ≡ (Joined number, v)
over_joined b b' v number e h = subst (λ (b : Book). advance b.world Join ≡ (Joined number, v)) e h
