-- A walk is answered: the world after, what the journal keeps, and every slot's account.
use Rattle.std.specs.Prelude.{◌≡◌, ◌≢◌, ℕ, zero, suc, ◌+◌, ◌≤◌, Bool, true, false, cond, ◌==◌, List, [], ◌∷◌, map}
use Rattle.std.specs.Prelude.{length, Option, Some, option_map, slice_get, slice_set, slice_index_or, refl, ◌-◌, ◌&&◌}
use Rattle.std.specs.Prelude.{◌++◌, None}
use Rattle.std.proofs.Common.{sym, subst, ap, ◌∙◌, arith, length-append, inl, inr}
use Rattle.std.proofs.lemmas.Bool.{eqb-true, eq-eqb}
use Rattle.std.proofs.lemmas.List.{length-map, length-set}
use Rattle.ll_rights.specs.declared.limits.TheConstants.{HISTORY_ENTRIES, TREE_CLIENTS}
use Rattle.ll_rights.specs.Map.{get, has}
use Rattle.ll_node.specs.Accounts.{account, accounts, names_map}
use Rattle.ll_node.specs.declared.held.Held.{Held}
use Rattle.ll_node.specs.Lent.{vacant}
use Rattle.ll_node.specs.InodeTable.{IsTable, without_inode}
use Rattle.ll_node.specs.Enactment.{Scene, LeavesTable}
use Rattle.ll_node.proofs.GivenSlots.{put_again}
use Rattle.ll_seq.specs.declared.client.ClientRecord.{ClientRecord}
use Rattle.ll_seq.specs.declared.reply.Reply.{Reply}
use Rattle.ll_seq.specs.Call.{targets}
use Rattle.ll_seq.specs.History.{Log}
use Rattle.ll_seq.specs.State.{State, bytes_of, kind_of, start}
use Rattle.ll_seq.specs.Tree.{kind_or_file}
use Rattle.ll_seq.specs.Step.{step}
use Rattle.ll_laws.specs.Walk.{Walk}
use Rattle.ll_laws.specs.World.{World, Replied, advance, shown, is_full, may_commit, moved_by, map_values}
use Rattle.ll_laws.specs.World.{next_number, overtaken, reply_to, without_walk, has_any}
use Rattle.ll_laws.specs.declared.step.Step.TheVariants.{Commit}
use Rattle.ll_laws.specs.Sound.{IsSound}
use Rattle.ll_laws.proofs.Shapes.{with_entry, with_stale}
use Rattle.ll_journal.specs.declared.journal.Journal.TheInside.{Inside}
use Rattle.ll_journal.specs.Book.{Seat, Book, Spares, mark_of, has_mark, slot_of}
use Rattle.ll_journal.specs.WalkEnds.{LeavesFree, TakesName, would_make}
use Rattle.ll_journal.specs.Kept.{IsKept, AreSeated, seat_at, world_of, book_of, walks_from, spares_of}
use Rattle.ll_journal.specs.Performed.{IsPerformed, at_seat}
use Rattle.ll_node.proofs.SlotLists.{set_same, set_other}
use Rattle.ll_journal.proofs.Ended.{commit_equation}
use Rattle.ll_journal.proofs.MarkOf.{are_clients, has_mark_stale, mark_same}
use Rattle.ll_journal.proofs.MadeNodes.{has_let_go, would_have_made}
use Rattle.ll_journal.proofs.StaleWalks.{overtaken_seat, overtaken_seats, seated_overtaken, spares_overtaken}
use Rattle.ll_journal.proofs.StaleWalks.{walks_overtaken}
use Rattle.ll_journal.proofs.Ruled.{room_stays}
use Rattle.ll_journal.proofs.Shown.{shown_answered}
use Rattle.ll_journal.proofs.Starts.{sound_after}
use Rattle.ll_journal.proofs.OwnSteps.{entered, walks_same}

-- as the accounts of slots are told
pub told_slots : (b : Book) (slots : List ℕ)
    → map (slot_of b) slots ≡ accounts (shown b.world) (mark_of b.world) b.inodes slots
told_slots b [] = refl
told_slots b (k ∷ slots) = ap (λ ks. slot_of b k ∷ ks) (told_slots b slots)

-- one step's spared slots, and the next one's
pub spares_both : (b v x : Book) (slots : List ℕ) → Spares b v slots → Spares v x slots → Spares b x slots
spares_both b v x slots first then = record {
  limit = then.limit ∙ first.limit;
  size = then.size ∙ first.size;
  slots = λ k out. then.slots k out ∙ first.slots k out;
}

-- another record and another spare in one seat
pub seated_with : (s t : State) (seats : List Seat) (place number : ℕ) (old new : Seat)
    → slice_get seats place ≡ Some old → number ≡ suc place
    → ((q : ℕ) → get t.clients q ≡ cond (q == number) (Some new.client) (get s.clients q)) → AreSeated s seats
    → AreSeated t (slice_set seats place new)
seated_with s t seats place number old new at numbered clients seated q = clients q ∙ by (q == number) refl
  where
    client_in : Option Seat → Option ClientRecord
    client_in = option_map (λ (seat : Seat). seat.client)

    other : (q : ℕ) → q ≢ number → seat_at (slice_set seats place new) q ≡ seat_at seats q
    other zero n = refl
    other (suc i) n = set_other seats place i new (λ e. n (ap suc (sym e) ∙ sym numbered))

    by : (b : Bool) → (q == number) ≡ b
        → cond b (Some new.client) (get s.clients q) ≡ client_in (seat_at (slice_set seats place new) q)
    by true e = sym (ap client_in (ap (seat_at (slice_set seats place new)) (eqb-true q number e ∙ numbered)
        ∙ set_same seats place old new at))
    by false e = seated q ∙ sym (ap client_in (other q (λ same. cc (sym e ∙ eq-eqb q number same))))

pub spares_set : (seats : List Seat) (place : ℕ) (new : Seat)
    → spares_of (slice_set seats place new) ≡ slice_set (spares_of seats) place new.spare
spares_set [] place new = refl
spares_set (z ∷ seats) zero new = refl
spares_set (z ∷ seats) (suc place) new = ap (λ ks. z.spare ∷ ks) (spares_set seats place new)

-- where the client makes its call
abbrev pub scene_at : Inside → ℕ → ℕ → Scene
scene_at i number place = record {
  state = shown (world_of i);
  marks = mark_of (world_of i);
  spares = spares_of i.seats.items;
  number = number;
  place = place;
}

-- A walk is committed. j: the journal before, i: after the walk's end, k: after the commit
pub record IsCommitted
    (j i k : Inside) (number place : ℕ) (slots : List ℕ) (lent : List Held) (reply : Reply) : Type 0 where
  pub h : IsKept j
  pub mid : IsKept i
  pub walk : Walk
  pub is : get (world_of j).walks number ≡ Some walk
  pub may : may_commit (world_of j) number walk ≡ true
  pub ended : world_of i ≡ without_walk (world_of j) number
  pub room_left : is_full (world_of i) ≡ false
  pub old : Seat
  pub at : slice_get i.seats.items place ≡ Some old
  pub numbered : number ≡ suc place
  pub new : Seat
  pub idle : new.walk ≡ old.walk
  pub before : List Held
  pub performs :
      IsPerformed (scene_at i number place) (at_seat old i.table slots before) walk.call reply
      (at_seat new k.table slots lent)
  pub moved : List ℕ
  pub moves : moved ≡ moved_by (shown (world_of i)) walk.call reply
  pub seats : k.seats.items ≡ overtaken_seats moved (slice_set i.seats.items place new)
  pub history : k.history ≡ entered i number walk.call reply
  pub rules : k.rules ≡ i.rules
  pub room : k.room ≡ i.room
  pub gate : k.gate ≡ i.gate

module _ {j i k : Inside} {number place : ℕ} {slots : List ℕ} {lent : List Held} {reply : Reply}
    (committed : IsCommitted j i k number place slots lent reply) where
  open committed use {h, mid, walk, is, may, ended, room_left, old, at, numbered, new, idle, performs}
  open committed use {moved, moves, seats, history, rules, room, gate}

  abbrev w : World
  w = world_of j

  abbrev s : State
  s = shown (world_of i)

  steps_so : step s number walk.call (next_number (world_of i)) ≡ (reply, performs.after)
  steps_so = performs.steps (next_number (world_of i))

  told : reply ≡ reply_to (world_of i) number walk.call
  told = sym (ap (λ (p : Reply × State). p.0) steps_so)

  told_then : reply ≡ reply_to w number walk.call
  told_then = told ∙ ap (λ (v : World). reply_to v number walk.call) ended

  walks_are : walks_from 1 k.seats.items ≡ map_values (overtaken moved) (walks_from 1 i.seats.items)
  walks_are = ap (walks_from 1) seats ∙ walks_overtaken moved (slice_set i.seats.items place new)
      ∙ ap (map_values (overtaken moved)) (walks_same i.seats.items place old new 1 at idle)

  world_so : world_of k ≡ with_stale moved (with_entry (world_of i) number walk.call reply)
  world_so = λ x. record {
    rules = rules x;
    room = room x;
    limit = (history x).limit;
    history = (history x).entries;
    walks = walks_are x;
    gate = gate x;
  }

  pub committed_world : world_of k
      ≡ with_stale (moved_by (shown w) walk.call reply) (with_entry (without_walk w number) number walk.call reply)
  committed_world =
      world_so ∙ (λ x. with_stale (moves x) (with_entry (ended x) number walk.call reply))
      ∙ ap (λ (v : World). with_stale (moved_by (shown v) walk.call reply)
      (with_entry (without_walk w number) number walk.call reply)) ended

  room_then : is_full w ≡ false
  room_then = ap is_full (sym ended) ∙ room_left

  pub committed_step : advance w (Commit number) ≡ (Replied reply, world_of k)
  committed_step = commit_equation w number walk is may room_then reply told_then
      ∙ ap (λ (v : World). (Replied reply, v)) (sym committed_world)

  sound_so : IsSound (world_of k)
  sound_so = sound_after j (world_of k) (Commit number) (Replied reply) h committed_step

  shown_so : shown (world_of k) ≡ performs.after
  shown_so =
      shown_answered (world_of i) (world_of k) number walk.call reply told (ap (λ (v : World). v.rules) world_so)
      (ap (λ (v : World). v.room) world_so) (ap (λ (v : World). v.history) world_so)
      ∙ ap (λ (p : Reply × State). p.1) steps_so

  seated_so : AreSeated performs.after k.seats.items
  seated_so =
      subst (AreSeated performs.after) (sym seats)
      (seated_overtaken moved performs.after (slice_set i.seats.items place new)
      (seated_with s performs.after i.seats.items place number old new at numbered performs.made.clients mid.seated))

  spares_so : spares_of k.seats.items ≡ slice_set (spares_of i.seats.items) place new.spare
  spares_so = ap spares_of seats ∙ spares_overtaken moved (slice_set i.seats.items place new)
      ∙ spares_set i.seats.items place new

  table_so : IsTable performs.after (spares_of k.seats.items) k.table
  table_so = subst (λ ks. IsTable performs.after ks k.table) (sym spares_so) performs.made.counted

  pub committed_kept : IsKept k
  committed_kept = record {
    sound = sound_so;
    seated = subst (λ s. AreSeated s k.seats.items) (sym shown_so) seated_so;
    table = subst (λ s. IsTable s (spares_of k.seats.items) k.table) (sym shown_so) table_so;
    crowd =
        subst (λ n. n ≤ TREE_CLIENTS)
        (sym (ap length seats ∙ length-map (slice_set i.seats.items place new) (overtaken_seat moved)
        ∙ length-set i.seats.items place new)) mid.crowd;
    numbers =
        let longer = ap (λ (log : Log). length log.entries) history
        ∙ length-append i.history.entries (record { client = number; call = walk.call; reply = reply } ∷ []) in
        let was = mid.numbers in
        let next = performs.made.next in
        omega (arith, longer, was, next);
    small = subst (λ (log : Log). log.limit ≤ HISTORY_ENTRIES) (sym history) mid.small;
  }

  -- ---- accounts

  same_marks : (x : ℕ) → mark_of (world_of k) x ≡ mark_of (world_of i) x
  same_marks x =
      mark_same (world_of i) (world_of k) x (are_clients (world_of i) mid.sound) (are_clients (world_of k) sound_so)
      (λ n. ap (λ (v : World). has_mark v x n) world_so
      ∙ has_mark_stale (with_entry (world_of i) number walk.call reply) moved x n)

  slot_so : (q : ℕ) → slot_of (book_of k) q ≡ account performs.after (mark_of (world_of i)) k.table.inodes q
  slot_so q =
      ap (λ (s : State). account s (mark_of (world_of k)) k.table.inodes q) shown_so
      ∙ ap (λ (m : Option ℕ). cond (slice_index_or k.table.inodes q 0 == 0) vacant (record {
        inode = slice_index_or k.table.inodes q 0;
        node = record {
          kind = kind_or_file performs.after (slice_index_or k.table.inodes q 0);
          names = names_map performs.after (slice_index_or k.table.inodes q 0);
          bytes = bytes_of performs.after (slice_index_or k.table.inodes q 0);
          mark = m;
        };
      })) (same_marks (slice_index_or k.table.inodes q 0))

  slots_so : (qs : List ℕ) → map (slot_of (book_of k)) qs
      ≡ accounts performs.after (mark_of (world_of i)) k.table.inodes qs
  slots_so [] = refl
  slots_so (q ∷ qs) = λ x. slot_so q x ∷ slots_so qs x

  pub committed_lent : lent ≡ map (slot_of (book_of k)) slots
  committed_lent = performs.made.told ∙ sym (slots_so slots)

  pub committed_spares : Spares (book_of i) (book_of k) slots
  committed_spares = record {
    limit = ap (λ (v : World). v.limit) world_so;
    size =
        let now = table_so.slots in
        let then = mid.table.slots in
        let rooms = ap (λ (s : State). s.room) (sym shown_so) ∙ room_stays (start k.rules k.room) k.history.entries
        ∙ room ∙ sym (room_stays (start i.rules i.room) i.history.entries) in
        now ∙ ap (λ n. n + TREE_CLIENTS) rooms ∙ sym then;
    slots = λ q out. slot_so q ∙ performs.made.others q out;
  }

  -- ---- slots and spares

  first_true : (a b : Bool) → (a && b) ≡ true → a ≡ true
  first_true true b e = refl
  first_true false b e = absurd (cc e)

  spares_stay : slice_get (spares_of i.seats.items) place ≡ Some new.spare
      → spares_of k.seats.items ≡ spares_of i.seats.items
  spares_stay same = spares_so ∙ put_again (spares_of i.seats.items) place new.spare same

  pub committed_rest : i.table.inodes ≡ j.table.inodes → i.table.free ≡ j.table.free
      → spares_of i.seats.items ≡ spares_of j.seats.items → LeavesFree (book_of j) number slots (book_of k)
  committed_rest inodes free spares = by performs.made.freed
    where
      place_is : number - 1 ≡ place
      place_is = omega (arith, numbered)

      next_is : (shown w).next ≡ i.table.next
      next_is = ap (λ (v : World). (shown v).next) (sym ended) ∙ sym mid.table.next

      made_so : has performs.after.nodes i.table.next ≡ true → would_make (shown w) walk.call ≡ true
      made_so made =
          ap (λ (v : World). would_make (shown v) walk.call) (sym ended)
          ∙ would_have_made s performs.after number walk.call (next_number (world_of i)) _ k.table
          (ap (λ (p : Reply × State). p.1) steps_so) performs.made.counted
          (ap (has performs.after.nodes) (sym mid.table.next) ∙ made)

      let_go_so : (x : ℕ) → has s.nodes x ≡ true → kind_of performs.after x ≡ None → TakesName walk.call
      let_go_so x there gone =
          has_let_go s performs.after number walk.call (next_number (world_of i)) x
          (ap (λ (p : Reply × State). p.1) steps_so)
          (first_true (has_any (targets walk.call)) _ ((h.sound.valid number walk is).0.walked)) there gone

      by : LeavesTable (scene_at i number place) performs.after (at_seat old i.table slots committed.before)
          (at_seat new k.table slots lent) → LeavesFree (book_of j) number slots (book_of k)
      by (inl keeps) = inl (λ x. record {
        world = world_of k;
        inodes = (keeps.1.inodes ∙ inodes) x;
        free = (keeps.1.free ∙ free) x;
        spares = (spares_stay keeps.0 ∙ spares) x;
      })
      by (inr (inl takes)) = inr (inl (record {
        may = (walk, is, made_so takes.made);
        slot = new.spare;
        made = (λ x. has (shown_so x).nodes (next_is x)) ∙ takes.made;
        inodes = takes.inodes ∙ (λ x. slice_set (inodes x) (slice_index_or (spares x) (sym place_is x) 0)
            (sym next_is x));
        free = sym free ∙ takes.free;
        spares = spares_so ∙ (λ x. slice_set (spares x) (sym place_is x) new.spare);
      }))
      by (inr (inr gives)) =
          let back = gives.1 in
          inr (inr (
            back.slot,
            (walk, is, let_go_so (slice_index_or i.table.inodes back.slot 0) back.there back.gone),
            back.lent,
            record {
              there = (λ x. has (shown (sym ended x)).nodes (slice_index_or (sym inodes x) back.slot 0)) ∙ back.there;
              gone = (λ x. kind_of (shown_so x) (slice_index_or (sym inodes x) back.slot 0)) ∙ back.gone;
              inodes = back.inodes ∙ (λ x. without_inode (inodes x) (slice_index_or (inodes x) back.slot 0));
              free = back.free ∙ ap (λ ks. ks ++ back.slot ∷ []) free;
              spares = spares_stay gives.0 ∙ spares;
            },
          ))
