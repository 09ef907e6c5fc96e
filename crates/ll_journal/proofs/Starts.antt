-- A walk begins: what the journal keeps stays, and so does every slot's account.
use Rattle.std.specs.Prelude.{◌≡◌, ◌≢◌, ◌⊎◌, ℕ, zero, suc, ◌+◌, Bool, true, false, not, ◌&&◌, ◌||◌, ◌==◌, cond, List}
use Rattle.std.specs.Prelude.{[], ◌∷◌, map, length, Option, Some, None, is_none, is_some, option_map, option_and_then}
use Rattle.std.specs.Prelude.{unwrap_or, slice_get, slice_set, slice_index_or, ◌<◌, ◌≤◌, refl}
use Rattle.std.specs.Option.{option_map_or}
use Rattle.std.specs.Ordering.{nat_cmp}
use Rattle.std.specs.Cmp.{nat_cmp_total}
use Rattle.std.specs.FinMap.{nat_cmp-IsAntisymmetric}
use Rattle.std.proofs.Common.{sym, subst, ap, ◌∙◌, inl, inr}
use Rattle.ll_rights.specs.declared.limits.TheConstants.{HISTORY_ENTRIES, TREE_CLIENTS}
use Rattle.ll_rights.specs.Map.{Map, get, insert}
use Rattle.ll_rights.proofs.Maps.{insert_cases}
use Rattle.ll_seq.specs.declared.call.Call.{Call}
use Rattle.ll_seq.specs.declared.client.ClientRecord.{ClientRecord}
use Rattle.ll_laws.proofs.Chains.{same_Some}
use Rattle.ll_seq.specs.State.{State, new_client, start, bytes_of}
use Rattle.ll_seq.specs.Tree.{kind_or_file}
use Rattle.ll_seq.specs.History.{Log, state_after}
use Rattle.ll_journal.specs.declared.journal.Journal.TheInside.{Inside}
use Rattle.ll_seq.specs.Step.{client_of}
use Rattle.ll_laws.specs.Walk.{Walk, Above, marks}
use Rattle.ll_laws.specs.World.{World, Outcome, Begun, NotNow, advance, is_idle, is_walked, takes_gate, shown}
use Rattle.ll_laws.specs.World.{next_number}
use Rattle.ll_laws.specs.declared.step.Step.{Step}
use Rattle.ll_laws.specs.declared.step.Step.TheVariants.{Begin}
use Rattle.ll_laws.specs.Sound.{IsSound}
use Rattle.ll_laws.proofs.Shapes.{begun}
use Rattle.ll_laws.proofs.SoundSteps.{sound_kept}
use Rattle.ll_journal.specs.Book.{Seat, Book, Spares, inode_in, slot_of, has_mark, marked_below}
use Rattle.ll_node.specs.Accounts.{names_map}
use Rattle.ll_node.specs.Lent.{vacant}
use Rattle.ll_journal.specs.Kept.{AreSeated, IsKept, seat_at, walks_from, world_of, book_of, spares_of}
use Rattle.ll_node.specs.InodeTable.{Table, IsTable}
use Rattle.std.proofs.lemmas.List.{length-set}
use Rattle.std.proofs.lemmas.Option.{slice_get-get_or}
use Rattle.ll_journal.proofs.Begun.{walk_at, walks_put}

-- ---- whether it may

-- nothing is in its way in its seat
abbrev pub may : Seat → Call → Bool
may seat call = is_none seat.walk && is_walked seat.client call

abbrev pub is_free : World → Call → Bool
is_free w call = not (takes_gate call) || is_none w.gate

not_some : {A : Type 0} (o : Option A) → not (is_some o) ≡ is_none o
not_some None = refl
not_some (Some x) = refl

module _ (w : World) (seats : List Seat) (seated : AreSeated (shown w) seats) (walks : w.walks ≡ walks_from 1 seats)
    (number : ℕ) (call : Call) where
  client_is : get (shown w).clients number ≡ option_map (λ (seat : Seat). seat.client) (seat_at seats number)
  client_is = seated number

  walk_is : get w.walks number ≡ option_and_then (λ (seat : Seat). seat.walk) (seat_at seats number)
  walk_is = ap (λ (m : Map nat_cmp Walk). get m number) walks ∙ walk_at seats number

  abbrev told : Option ClientRecord → Option Walk → Bool
  told client walk = (is_some client && not (is_some walk)) && is_walked (unwrap_or client new_client) call

  told_is : (is_idle w number && is_walked (client_of (shown w) number) call)
      ≡ option_map_or (λ (seat : Seat). may seat call) (seat_at seats number) false
  told_is = ap (λ c. told c (get w.walks number)) client_is
      ∙ ap (told (option_map (λ (seat : Seat). seat.client) (seat_at seats number))) walk_is ∙ by (seat_at seats number)
    where
      by : (o : Option Seat) → told (option_map (λ (seat : Seat). seat.client) o)
          (option_and_then (λ (seat : Seat). seat.walk) o) ≡ option_map_or (λ (seat : Seat). may seat call) o false
      by None = refl
      by (Some seat) = ap (λ b. b && is_walked seat.client call) (not_some seat.walk)

  abbrev answer : Bool → Outcome × World
  answer b = unwrap_or (cond b (Some (Begun, begun w number call)) None) (NotNow, w)

  -- no such client, or its walk or its call is in the way
  pub not_here : option_map_or (λ (seat : Seat). may seat call) (seat_at seats number) false ≡ false
      → advance w (Begin number call) ≡ (NotNow, w)
  not_here e = ap (λ b. answer (b && is_free w call)) (told_is ∙ e)

  pub begins : (seat : Seat) → seat_at seats number ≡ Some seat → may seat call ≡ true → is_free w call ≡ true
      → advance w (Begin number call) ≡ (Begun, begun w number call)
  begins seat at e free = ap (λ b. answer (b && is_free w call)) (told_is
      ∙ ap (λ o. option_map_or (λ (seat : Seat). may seat call) o false) at ∙ e) ∙ ap answer free

-- ---- what stays

got_kept : {A : Type 0} (f : Seat → A) (seats : List Seat) (i j : ℕ) (old seat : Seat) → slice_get seats i ≡ Some old
    → f seat ≡ f old
    → option_map f (slice_get (slice_set seats i seat) j) ≡ option_map f (slice_get seats j)
got_kept f [] i j old seat at same = refl
got_kept f (z ∷ seats) zero zero old seat at same = ap Some (same ∙ ap f (sym (same_Some z old at)))
got_kept f (z ∷ seats) zero (suc j) old seat at same = refl
got_kept f (z ∷ seats) (suc i) zero old seat at same = refl
got_kept f (z ∷ seats) (suc i) (suc j) old seat at same = got_kept f seats i j old seat at same

-- the spares are the same
pub spares_kept : (seats : List Seat) (i : ℕ) (old seat : Seat) → slice_get seats i ≡ Some old → seat.spare ≡ old.spare
    → map (λ (s : Seat). s.spare) (slice_set seats i seat) ≡ map (λ (s : Seat). s.spare) seats
spares_kept [] i old seat at same = refl
spares_kept (z ∷ seats) zero old seat at same =
    ap (λ k. k ∷ map (λ (s : Seat). s.spare) seats) (same ∙ ap (λ (x : Seat). x.spare) (sym (same_Some z old at)))
spares_kept (z ∷ seats) (suc i) old seat at same = ap (λ ks. z.spare ∷ ks) (spares_kept seats i old seat at same)

still_seated : (s : State) (seats : List Seat) (place : ℕ) (old seat : Seat) → slice_get seats place ≡ Some old
    → seat.client ≡ old.client → AreSeated s seats → AreSeated s (slice_set seats place seat)
still_seated s seats place old seat at same seated zero = seated zero
still_seated s seats place old seat at same seated (suc q) =
    seated (suc q) ∙ sym (got_kept (λ (seat : Seat). seat.client) seats place q old seat at same)

-- the world with another walk in a seat, and perhaps another holder of the gate
abbrev pub changed_world : Inside → ℕ → Seat → Option ℕ → World
changed_world j place seat gate =
    record (world_of j) { walks = walks_from 1 (slice_set j.seats.items place seat); gate = gate }

-- with another walk in a seat, and another holder of the gate
pub kept_by : (j k : Inside) (place : ℕ) (old seat : Seat) (gate : Option ℕ) → IsKept j
    → slice_get j.seats.items place ≡ Some old → seat.client ≡ old.client → seat.spare ≡ old.spare
    → IsSound (changed_world j place seat gate) → k.gate ≡ gate → k.seats.items ≡ slice_set j.seats.items place seat
    → k.rules ≡ j.rules → k.room ≡ j.room → k.history ≡ j.history → k.table ≡ j.table → IsKept k
kept_by j k place old seat gate h at client spare sound gated seats rules room history table = record {
  sound = subst IsSound (λ i. record {
    rules = sym rules i;
    room = sym room i;
    limit = (sym history i).limit;
    history = (sym history i).entries;
    walks = walks_from 1 (sym seats i);
    gate = sym gated i;
  }) sound;
  seated = subst (λ s. AreSeated s k.seats.items) (sym tree)
      (subst (AreSeated (shown (world_of j))) (sym seats)
      (still_seated (shown (world_of j)) j.seats.items place old seat at client h.seated));
  table = subst (λ (p : State × (List ℕ × Table)). IsTable p.0 p.1.0 p.1.1)
      (λ i. (sym tree i, (sym spares i, sym table i))) h.table;
  crowd = subst (λ n. n ≤ TREE_CLIENTS) (sym seated_many) h.crowd;
  numbers = subst (λ (p : Table × Log). p.0.next ≤ length p.1.entries + 2) (λ i. (sym table i, sym history i))
      h.numbers;
  small = subst (λ (log : Log). log.limit ≤ HISTORY_ENTRIES) (sym history) h.small;
}
  where
    tree : shown (world_of k) ≡ shown (world_of j)
    tree = ap (λ r. state_after (start r k.room) k.history.entries) rules
        ∙ ap (λ n. state_after (start j.rules n) k.history.entries) room
        ∙ ap (λ (l : Log). state_after (start j.rules j.room) l.entries) history

    seated_many : length k.seats.items ≡ length j.seats.items
    seated_many = ap length seats ∙ length-set j.seats.items place seat

    spares : spares_of k.seats.items ≡ spares_of j.seats.items
    spares = ap spares_of seats ∙ spares_kept j.seats.items place old seat at spare

-- ---- accounts

module _ (w : World) (number : ℕ) (call : Call) (idle : get w.walks number ≡ None) (inode : ℕ) where
  same_mark : (q : ℕ) → has_mark (begun w number call) inode q ≡ has_mark w inode q
  same_mark q = by (insert_cases nat_cmp_total nat_cmp-IsAntisymmetric w.walks number
      (record { call = call; starts = 1; stale = false; at = Above }) q)
    where
      test : Option Walk → Bool
      test o = option_map_or (λ (walk : Walk). marks walk inode) o false

      by : ((q ≡ number) × (get (begun w number call).walks q
          ≡ Some (record { call = call; starts = 1; stale = false; at = Above })))
          ⊎ ((q ≢ number) × (get (begun w number call).walks q ≡ get w.walks q))
          → has_mark (begun w number call) inode q ≡ has_mark w inode q
      by (inl a) = ap test a.1 ∙ sym (ap test (ap (get w.walks) a.0 ∙ idle))
      by (inr a) = ap test a.1

  same_below : (count : ℕ) → marked_below (begun w number call) inode count ≡ marked_below w inode count
  same_below zero = refl
  same_below (suc q) = ap (λ b. cond b (Some q) (marked_below (begun w number call) inode q)) (same_mark q)
      ∙ ap (λ o. cond (has_mark w inode q) (Some q) o) (same_below q)

pub same_slots : (b : Book) (number : ℕ) (call : Call) → get b.world.walks number ≡ None
    → Spares b (record b { world = begun b.world number call }) []
same_slots b number call idle = record {
  limit = refl;
  size = refl;
  slots = λ j out. ap (λ (m : Option ℕ). cond (inode_in b j == 0) vacant (record {
    inode = inode_in b j;
    node = record {
      kind = kind_or_file (shown b.world) (inode_in b j);
      names = names_map (shown b.world) (inode_in b j);
      bytes = bytes_of (shown b.world) (inode_in b j);
      mark = m;
    };
  })) (same_below b.world number call idle (inode_in b j) (next_number b.world));
}

pub slots_kept : (b b' : Book) (number : ℕ) (call : Call) → b'.world ≡ begun b.world number call → b'.inodes ≡ b.inodes
    → get b.world.walks number ≡ None → Spares b b' []
slots_kept b b' number call world inodes idle =
    let same = same_slots b number call idle in
    record {
      limit = ap (λ (w : World). w.limit) world;
      size = ap length inodes;
      slots = λ j out. ap (λ w. slot_of (record b' { world = w }) j) world
          ∙ ap (λ ns. slot_of (record b' { world = begun b.world number call; inodes = ns }) j) inodes
          ∙ same.slots j out;
    }

-- ---- as the code finds it

pub at_place : (seats front : List Seat) (number place : ℕ) (seat : Seat) → front ≡ seats → (number ≡ suc place)
    × (place < length front) → seat ≡ slice_index_or seats place seat → slice_get seats place ≡ Some seat
at_place seats front number place seat same within is =
    slice_get-get_or seats place seat (subst (λ xs. place < length xs) same within.1) ∙ ap Some (sym is)

idle_if : (o : Option Walk) (b : Bool) → (is_none o && b) ≡ true → o ≡ None
idle_if None b e = refl
idle_if (Some x) b e = absurd (cc e)

module _ (j : Inside) (h : IsKept j) (number place : ℕ) (call : Call) (seat : Seat)
    (at : slice_get j.seats.items place ≡ Some seat) (numbered : number ≡ suc place) where
  stands : seat_at j.seats.items number ≡ Some seat
  stands = ap (seat_at j.seats.items) numbered ∙ at

  pub turned_down : (test : Bool) → test ≡ may seat call → test ≡ false
      → advance (world_of j) (Begin number call) ≡ (NotNow, world_of j)
  turned_down test is bad =
      not_here (world_of j) j.seats.items h.seated refl number call
      (ap (λ o. option_map_or (λ (seat : Seat). may seat call) o false) stands ∙ sym is ∙ bad)

  pub idle_before : (test : Bool) → test ≡ may seat call → test ≡ true → get (world_of j).walks number ≡ None
  idle_before test is good =
      walk_is (world_of j) j.seats.items h.seated refl number call
      ∙ ap (option_and_then (λ (seat : Seat). seat.walk)) stands
      ∙ idle_if seat.walk (is_walked seat.client call) (sym is ∙ good)

  pub world_begun : (new : Seat) (gate : Option ℕ)
      → new ≡ record seat { walk = Some (record { call = call; starts = 1; stale = false; at = Above }) }
      → gate ≡ cond (takes_gate call) (Some number) j.gate
      → record (world_of j) { walks = walks_from 1 (slice_set j.seats.items place new); gate = gate }
      ≡ begun (world_of j) number call
  world_begun new gate is holds =
      let walk : Walk = record { call = call; starts = 1; stale = false; at = Above } in
      let walks : walks_from 1 (slice_set j.seats.items place new) ≡ insert (walks_from 1 j.seats.items) number walk =
      walks_put j.seats.items place seat new walk at (ap (λ (s : Seat). s.walk) is)
      ∙ ap (λ n. insert (walks_from 1 j.seats.items) n walk) (sym numbered) in
      ap (λ (m : Map nat_cmp Walk). record (world_of j) { walks = m; gate = gate }) walks
      ∙ ap (λ g. record (world_of j) { walks = insert (walks_from 1 j.seats.items) number walk; gate = g }) holds

  pub sets_out : (test free : Bool) → test ≡ may seat call → test ≡ true → free ≡ is_free (world_of j) call
      → free ≡ true → advance (world_of j) (Begin number call) ≡ (Begun, begun (world_of j) number call)
  sets_out test free is good may_hold free_now =
      begins (world_of j) j.seats.items h.seated refl number call seat stands (sym is ∙ good) (sym may_hold ∙ free_now)

pub over_begun : (b b' : Book) (v : World) (number : ℕ) (call : Call) → b ≡ b'
    → advance b.world (Begin number call) ≡ (Begun, v) → advance b'.world (Begin number call) ≡ (Begun, v)
over_begun b b' v number call e h = subst (λ (b : Book). advance b.world (Begin number call) ≡ (Begun, v)) e h

pub over_spares : (b b' c : Book) (ks : List ℕ) → b ≡ b' → Spares b c ks → Spares b' c ks
over_spares b b' c ks e h = subst (λ (b : Book). Spares b c ks) e h

-- what a step leads to is sound
pub sound_after : (j : Inside) (w : World) (step' : Step) (o : Outcome) → IsKept j → advance (world_of j) step' ≡ (o, w)
    → IsSound w
sound_after j w step' o h e = subst (λ (p : Outcome × World). IsSound p.1) e (sound_kept (world_of j) step' h.sound)

-- the rest of the book, where one seat's walk and the world changed
pub rest_kept : (j : Inside) (place : ℕ) (old seat : Seat) → slice_get j.seats.items place ≡ Some old
    → seat.spare ≡ old.spare → (w : World) (b : Book) → book_of j ≡ b
    → record {
      world = w;
      inodes = j.table.inodes;
      free = j.table.free;
      spares = map (λ (s : Seat). s.spare) (slice_set j.seats.items place seat);
    } ≡ record b { world = w }
rest_kept j place old seat at spare w b is =
    (λ i. record {
      world = w;
      inodes = j.table.inodes;
      free = j.table.free;
      spares = spares_kept j.seats.items place old seat at spare i;
    })
    ∙ ap (λ (b : Book). record b { world = w }) is
