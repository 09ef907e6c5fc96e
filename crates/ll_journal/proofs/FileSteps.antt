-- A client's call on a descriptor: what the step comes to, and what the journal keeps.
use Rattle.std.specs.Prelude.{◌≡◌, ◌≢◌, ℕ, suc, ◌≤◌, Bool, true, false, cond, not, List, [], ◌∷◌, ◌++◌, length, Some}
use Rattle.std.specs.Prelude.{None, Result, Ok, Err, IfOk, OnErr, slice_get, slice_set, refl}
use Rattle.std.specs.declared.alloc.AllocError.{AllocError}
use Rattle.std.proofs.Common.{sym, subst, ap, ◌∙◌, inl, inr, arith}
use Rattle.std.proofs.lemmas.List.{length-map, length-set}
use Rattle.ll_rights.specs.declared.errno.Errno.TheVariants.{HistoryFull}
use Rattle.ll_rights.specs.declared.kind.Kind.TheVariants.{Reg}
use Rattle.ll_rights.specs.declared.limits.TheConstants.{TREE_CLIENTS}
use Rattle.ll_rights.specs.Map.{get, has}
use Rattle.ll_laws.proofs.ClientChanges.{let_go_clients, with_bytes_clients}
use Rattle.ll_seq.specs.declared.call.Call.{Call}
use Rattle.ll_seq.specs.declared.call.Call.TheVariants.{Close}
use Rattle.ll_seq.specs.declared.client.ClientRecord.{ClientRecord}
use Rattle.ll_seq.specs.declared.client.Descriptor.{Descriptor}
use Rattle.ll_seq.specs.declared.reply.Reply.{Reply}
use Rattle.ll_seq.specs.declared.reply.Reply.TheVariants as replies
use Rattle.ll_seq.specs.Memory.{takes_memory}
use Rattle.ll_seq.specs.State.{State, kind_of}
use Rattle.ll_seq.specs.Step.{step, refusals, client_of}
use Rattle.ll_seq.specs.Effects.{let_go, lives, with_bytes, with_client}
use Rattle.ll_node.proofs.Survivors.{let_go_gone, let_go_next}
use Rattle.ll_node.proofs.SlotAccounts.{content_of, bytes_put, bytes_other, let_go_other, let_go_living}
use Rattle.ll_laws.specs.World.{World, NotNow, Replied, advance, shown, is_full, next_number, reply_to}
use Rattle.ll_laws.specs.declared.step.Step.TheVariants.{FdCommit}
use Rattle.ll_laws.specs.Sound.{IsSound}
use Rattle.ll_laws.proofs.Shapes.{with_entry}
use Rattle.ll_node.specs.declared.held.Held.{Held}
use Rattle.ll_node.specs.Lent.{vacant}
use Rattle.ll_node.specs.InodeTable.{Table, IsTable, NotIn, without_inode}
use Rattle.ll_journal.specs.declared.direct.Made.{Made}
use Rattle.ll_journal.specs.declared.direct.Made.TheVariants as answers
use Rattle.ll_journal.specs.declared.files.BytesCall.{BytesCall}
use Rattle.ll_journal.specs.declared.files.FileCall.{FileCall}
use Rattle.ll_journal.specs.declared.files.FileCall.TheVariants as files
use Rattle.ll_journal.specs.declared.journal.Journal.TheInside.{Inside}
use Rattle.ll_journal.specs.Book.{Seat, Book, Spares, inode_in, slot_of, held_of, mark_of}
use Rattle.ll_journal.specs.Direct.{Answers, LeavesSlot}
use Rattle.ll_journal.specs.Files.{ComesOn, IsFreeOn, LetsGo, Serves, on_bytes, on_file, unopened}
use Rattle.ll_journal.specs.Direct.{Starves}
use Rattle.ll_journal.specs.Kept.{AreSeated, IsKept, walks_from, world_of, book_of, spares_of}
use Rattle.ll_journal.proofs.Answered.{world_is, kept_answered}
use Rattle.ll_journal.proofs.FileCalls.{closed}
use Rattle.ll_journal.proofs.FileTables.{table_bytes, left_slot, other_slot}
use Rattle.ll_journal.proofs.HeldAfter.{held_answered}
use Rattle.ll_journal.proofs.LentSlots.{slot_holds, slot_vacant, spares_others, one_slot}
use Rattle.ll_journal.proofs.OpenFiles.{file_kind}
use Rattle.ll_journal.proofs.Shown.{shown_reply}
use Rattle.ll_journal.proofs.Starved.{file_takes, starves_by}
use Rattle.ll_journal.proofs.Starts.{sound_after, spares_kept}
use Rattle.ll_journal.proofs.OwnSteps.{there, walks_same, seated_put, set_again, world_unchanged, book_unchanged}
use Rattle.ll_journal.proofs.OwnSteps.{kept_unchanged, entered}
use Rattle.ll_journal.proofs.CalledFiles.{file_replies, owner, owner_of, lives_on, some_inode, lies, file_is, placed_at}

-- ---- the whole step

-- what it is to show
pub record FileStepped (b : Book) (number : ℕ) (call : Call) (slot : ℕ) (answer : Made) (file : Held) (k : Inside) :
    Type 0 where
  pub kept : IsKept k
  pub does : Answers b (FdCommit number call) answer (book_of k)
  pub lent : file ≡ slot_of (book_of k) slot
  pub spares : Spares b (book_of k) (slot ∷ [])
  pub rest : LeavesSlot call slot b (book_of k)

same_spares : (b b' : Book) (slots : List ℕ) → b' ≡ b → Spares b b' slots
same_spares b b' slots e = subst (λ x. Spares b x slots) (sym e)
    (record { limit = refl; size = refl; slots = λ j out. refl })

replied_so : (b b' : Book) (number : ℕ) (call : Call) (answer : Made) (reply : Reply) → answer ≡ answers.Replied reply
    → is_full b.world ≡ false → advance b.world (FdCommit number call) ≡ (Replied reply, b'.world)
    → Answers b (FdCommit number call) answer b'
replied_so b b' number call answer reply is room e =
    subst (λ a. Answers b (FdCommit number call) a b') (sym is) (room, e)

starved_so : (b b' : Book) (number : ℕ) (call : Call) (answer : Made) → answer ≡ answers.NoMemory → b' ≡ b
    → Starves b.world (FdCommit number call) → Answers b (FdCommit number call) answer b'
starved_so b b' number call answer is e starves =
    subst (λ a. Answers b (FdCommit number call) a b') (sym is) (e, starves)

module _ (j k : Inside) (h : IsKept j) (number : ℕ) (call : Call) (place : ℕ) (old : Seat)
    (at : slice_get j.seats.items place ≡ Some old) (numbered : number ≡ suc place)
    (fd : ℕ) (what : FileCall) (is_call : call ≡ on_file what fd) (d : Descriptor) (idle : old.walk ≡ None)
    (holds : get old.client.descriptors fd ≡ Some d)
    (slot : ℕ) (file : Held) (lent : file ≡ slot_of (book_of j) slot) (same : d.inode ≡ file.inode)
    (room_left : is_full (world_of j) ≡ false)
    (rules : k.rules ≡ j.rules) (room : k.room ≡ j.room) (gate : k.gate ≡ j.gate) (answer : Made) (file' : Held) where
  abbrev before : State
  before = shown (world_of j)

  abbrev at_slot : inode_in (book_of j) slot ≡ d.inode
  at_slot = lies j h number place old at numbered fd d holds slot file lent same

  abbrev was : file ≡ held_of (world_of j) d.inode
  was = file_is j h number place old at numbered fd d holds slot file lent same

  abbrev not_none : d.inode ≢ 0
  not_none = some_inode j h number place old at numbered fd d holds

  abbrev caller_is : client_of before number ≡ old.client
  caller_is = owner_of j h number place old at numbered fd d holds

  held_by_caller : get (client_of before number).descriptors fd ≡ Some d
  held_by_caller = ap (λ (c : ClientRecord). get c.descriptors fd) caller_is ∙ holds

  -- the call is answered so, and the tree is another
  module _ (reply : Reply) (t : State) (steps : step before number call (next_number (world_of j)) ≡ (reply, t))
      (history : k.history ≡ entered j number call reply)
      (walks_are : walks_from 1 k.seats.items ≡ walks_from 1 j.seats.items) (seated : AreSeated t k.seats.items)
      (table : IsTable t (spares_of k.seats.items) k.table)
      (many : length k.seats.items ≡ length j.seats.items) (next : k.table.next ≡ j.table.next) where
    told_so : reply ≡ reply_to (world_of j) number call
    told_so = sym (ap (λ (p : Reply × State). p.0) steps)

    after : (step before number call (next_number (world_of j))).1 ≡ t
    after = ap (λ (p : Reply × State). p.1) steps

    world_so : world_of k ≡ with_entry (world_of j) number call reply
    world_so = world_is j k h number call reply told_so rules room gate history walks_are

    advances : advance (world_of j) (FdCommit number call) ≡ (Replied reply, world_of k)
    advances = file_replies j h number call place old at numbered fd what is_call d idle holds reply room_left told_so
        ∙ ap (λ (v : World). (Replied reply, v)) (sym world_so)

    kept_so : IsKept k
    kept_so =
        kept_answered j k h number call reply told_so rules room gate history walks_are t after
        (sound_after j (world_of k) (FdCommit number call) (Replied reply) h advances) seated table
        (subst (λ n. n ≤ TREE_CLIENTS) (sym many) h.crowd) (omega (arith, next))

    answered_is : world_of k ≡ with_entry (world_of j) number call (reply_to (world_of j) number call)
    answered_is = world_so ∙ ap (with_entry (world_of j) number call) told_so

    tree_is : shown (world_of k) ≡ t
    tree_is = ap shown answered_is ∙ shown_reply (world_of j) number call ∙ after

    held_after : (i : ℕ) → held_of (world_of k) i
        ≡ record { inode = i; node = record (content_of t i) { mark = mark_of (world_of j) i } }
    held_after i =
        ap (λ v. held_of v i) answered_is
        ∙ held_answered (world_of j) number call h.sound (subst IsSound answered_is kept_so.sound) i
        ∙ ap (λ s. record { inode = i; node = record (content_of s i) { mark = mark_of (world_of j) i } }) after

    held_same : (i : ℕ) → content_of t i ≡ content_of before i → held_of (world_of k) i ≡ held_of (world_of j) i
    held_same i content = held_after i
        ∙ ap (λ s. record { inode = i; node = record s { mark = mark_of (world_of j) i } }) content

    spares_so : length k.table.inodes ≡ length j.table.inodes
        → ((q : ℕ) → NotIn q (slot ∷ []) → inode_in (book_of k) q ≡ inode_in (book_of j) q)
        → ((i : ℕ) → i ≢ d.inode → content_of t i ≡ content_of before i)
        → Spares (book_of j) (book_of k) (slot ∷ [])
    spares_so size stay content =
        spares_others (book_of j) j.table.places h.table.placed (book_of k) (slot ∷ [])
        (ap (λ (v : World). v.limit) world_so) size stay
        (λ q away some apart. held_same (inode_in (book_of j) q)
        (content (inode_in (book_of j) q) (λ e. apart.0 (e ∙ sym at_slot))))

  -- ---- on the file's bytes

  module _ (asked : BytesCall) (on : call ≡ on_bytes asked fd) (seats : k.seats.items ≡ j.seats.items)
      (table : k.table ≡ j.table) (reply : Reply)
      (comes : ComesOn d (on_bytes asked) file.node.bytes reply file'.node.bytes)
      (others : file' ≡ record file { node = record file.node { bytes = file'.node.bytes } })
      (history : k.history ≡ entered j number call reply) (is : answer ≡ answers.Replied reply) where
    abbrev bytes : List ℕ
    bytes = file'.node.bytes

    abbrev changed : State
    changed = with_bytes before d.inode bytes

    steps_so : step before number call (next_number (world_of j)) ≡ (reply, changed)
    steps_so =
        ap (λ c. step before number c (next_number (world_of j))) on
        ∙ comes before number (next_number (world_of j)) fd held_by_caller (ap (λ (f : Held). f.node.bytes) (sym was))

    still_seated : AreSeated changed k.seats.items
    still_seated = subst (AreSeated changed) (sym seats)
        (λ q. ap (λ m. get m q) (with_bytes_clients before d.inode bytes) ∙ h.seated q)

    still_table : IsTable changed (spares_of k.seats.items) k.table
    still_table =
        subst (λ (p : List ℕ × Table). IsTable changed p.0 p.1) (λ i. (spares_of (sym seats i), sym table i))
        (table_bytes before d.inode bytes (spares_of j.seats.items) j.table h.table)

    same_next : k.table.next ≡ j.table.next
    same_next = ap (λ (t : Table). t.next) table

    same_inodes : k.table.inodes ≡ j.table.inodes
    same_inodes = ap (λ (t : Table). t.inodes) table

    bytes_kept_so : IsKept k
    bytes_kept_so = kept_so reply changed steps_so history (ap (walks_from 1) seats) still_seated still_table
        (ap length seats) same_next

    lent_bytes : file' ≡ slot_of (book_of k) slot
    lent_bytes =
        others
        ∙ ap (λ (f : Held). record f { node = record f.node { bytes = bytes } }) was
        ∙ sym (ap (λ c. record { inode = d.inode; node = record c { mark = mark_of (world_of j) d.inode } })
        (bytes_put before d.inode bytes Reg
        (file_kind (world_of j) number fd old.client d (owner j h number place old at numbered fd d holds) holds)))
        ∙ sym (held_after reply changed steps_so history (ap (walks_from 1) seats) still_seated still_table
        (ap length seats) same_next d.inode)
        ∙ sym (slot_holds (book_of k) slot d.inode
        (ap (λ ns. inode_in (record (book_of k) { inodes = ns }) slot) same_inodes ∙ at_slot) not_none)

    on_its_bytes : FileStepped (book_of j) number call slot answer file' k
    on_its_bytes = record {
      kept = bytes_kept_so;
      does = replied_so (book_of j) (book_of k) number call answer reply is room_left
          (advances reply changed steps_so history (ap (walks_from 1) seats) still_seated still_table (ap length seats)
          same_next);
      lent = lent_bytes;
      spares = spares_so reply changed steps_so history (ap (walks_from 1) seats) still_seated still_table
          (ap length seats) same_next (ap length same_inodes)
          (λ q away. ap (λ ns. inode_in (record (book_of k) { inodes = ns }) q) same_inodes)
          (bytes_other before d.inode bytes);
      rest = inl (λ i. record {
        world = world_of k;
        inodes = (table i).inodes;
        free = (table i).free;
        spares = spares_of (seats i);
      });
    }

  -- ---- closing

  module _ (on : call ≡ Close fd) (new : Seat) (seats : k.seats.items ≡ slice_set j.seats.items place new)
      (new_is : new ≡ record old { client = unopened old.client fd })
      (lets : LetsGo d.inode j.table k.table file file') (reply : Reply) (done : reply ≡ replies.Done)
      (history : k.history ≡ entered j number call reply) (is : answer ≡ answers.Replied reply) where
    abbrev without : State
    without = with_client before number (unopened old.client fd)

    abbrev left : State
    left = let_go without d.inode

    steps_closed : step before number call (next_number (world_of j)) ≡ (reply, left)
    steps_closed =
        ap (λ c. step before number c (next_number (world_of j))) on
        ∙ closed before number (next_number (world_of j)) fd d held_by_caller
        ∙ (λ i. (sym done i, let_go (with_client before number (unopened (caller_is i) fd)) d.inode))

    walks_stay : walks_from 1 k.seats.items ≡ walks_from 1 j.seats.items
    walks_stay = ap (walks_from 1) seats
        ∙ walks_same j.seats.items place old new 1 at (ap (λ (s : Seat). s.walk) new_is)

    spares_are : spares_of k.seats.items ≡ spares_of j.seats.items
    spares_are = ap spares_of seats ∙ spares_kept j.seats.items place old new at (ap (λ (s : Seat). s.spare) new_is)

    seated_less : AreSeated left k.seats.items
    seated_less =
        subst (AreSeated left) (sym seats) (λ q. ap (λ m. get m q) (let_go_clients without d.inode)
        ∙ ap (λ (s : Seat). get (with_client before number s.client).clients q) (sym new_is)
        ∙ seated_put before j.seats.items place number old new at numbered h.seated q)

    abbrev here_is : get before.clients number ≡ Some old.client
    here_is = owner j h number place old at numbered fd d holds

    abbrev alive : has before.nodes d.inode ≡ true
    alive = lives_on j h number place old at numbered fd d holds

    left_table : IsTable left (spares_of j.seats.items) k.table
    left_table = lets.table before (spares_of j.seats.items) number old.client fd d h.table here_is holds refl alive

    table_less : IsTable left (spares_of k.seats.items) k.table
    table_less = subst (λ ks. IsTable left ks k.table) (sym spares_are) left_table

    seats_many : length k.seats.items ≡ length j.seats.items
    seats_many = ap length seats ∙ length-set j.seats.items place new

    next_same : k.table.next ≡ j.table.next
    next_same = left_table.next ∙ let_go_next without d.inode ∙ sym h.table.next

    closed_kept : IsKept k
    closed_kept = kept_so reply left steps_closed history walks_stay seated_less table_less seats_many next_same

    closed_does : Answers (book_of j) (FdCommit number call) answer (book_of k)
    closed_does = replied_so (book_of j) (book_of k) number call answer reply is room_left
        (advances reply left steps_closed history walks_stay seated_less table_less seats_many next_same)

    closed_spares : length k.table.inodes ≡ length j.table.inodes
        → ((q : ℕ) → NotIn q (slot ∷ []) → inode_in (book_of k) q ≡ inode_in (book_of j) q)
        → Spares (book_of j) (book_of k) (slot ∷ [])
    closed_spares size stay = spares_so reply left steps_closed history walks_stay seated_less table_less seats_many
        next_same size stay (let_go_other without d.inode)

    abbrev slot_is : get j.table.places d.inode ≡ Some slot
    slot_is = placed_at j h number place old at numbered fd d holds slot file lent same

    -- the table's slots, by whether the node goes
    inodes_by : (b : Bool) → lets.goes ≡ b
        → k.table.inodes ≡ cond b (without_inode j.table.inodes d.inode) j.table.inodes
    inodes_by b e = lets.inodes before (spares_of j.seats.items) h.table
        ∙ ap (λ b. cond b (without_inode j.table.inodes d.inode) j.table.inodes) e

    free_by : (b : Bool) → lets.goes ≡ b → k.table.free ≡ cond b (j.table.free ++ slot ∷ []) j.table.free
    free_by b e = lets.free before (spares_of j.seats.items) slot h.table slot_is
        ∙ ap (λ b. cond b (j.table.free ++ slot ∷ []) j.table.free) e

    lent_by : (b : Bool) → lets.goes ≡ b → file' ≡ cond b vacant file
    lent_by b e = lets.lent ∙ ap (λ b. cond b vacant file) e

    -- something else keeps the node
    stays_so : lets.goes ≡ false → FileStepped (book_of j) number call slot answer file' k
    stays_so e = record {
      kept = closed_kept;
      does = closed_does;
      lent =
          lent_by false e ∙ was
          ∙ sym (held_same reply left steps_closed history walks_stay seated_less table_less seats_many next_same
          d.inode (ap (λ s. content_of s d.inode) (let_go_living without d.inode living)))
          ∙ sym (slot_holds (book_of k) slot d.inode (stay slot ∙ at_slot) not_none);
      spares = closed_spares (ap length same_inodes) (λ q away. stay q);
      rest = inl (λ i. record {
        world = world_of k;
        inodes = same_inodes i;
        free = free_by false e i;
        spares = spares_are i;
      });
    }
      where
        same_inodes : k.table.inodes ≡ j.table.inodes
        same_inodes = inodes_by false e

        stay : (q : ℕ) → inode_in (book_of k) q ≡ inode_in (book_of j) q
        stay q = ap (λ ns. inode_in (record (book_of k) { inodes = ns }) q) same_inodes

        not_dead : (b : Bool) → false ≡ not b → b ≡ true
        not_dead true e = refl
        not_dead false e = absurd (cc e)

        living : lives without d.inode ≡ true
        living = not_dead _ (sym e ∙ lets.dies before (spares_of j.seats.items) number old.client fd d h.table here_is
            holds refl alive)

    tree_left : shown (world_of k) ≡ left
    tree_left = tree_is reply left steps_closed history walks_stay seated_less table_less seats_many next_same

    -- nothing does
    goes_so : lets.goes ≡ true → FileStepped (book_of j) number call slot answer file' k
    goes_so e = record {
      kept = closed_kept;
      does = closed_does;
      lent = lent_by true e ∙ sym (slot_vacant (book_of k) slot (in_after slot
          ∙ left_slot j.table.inodes d.inode slot at_slot));
      spares = closed_spares (ap length inodes ∙ length-map j.table.inodes _) (λ q away. in_after q
          ∙ other_slot j.table.inodes d.inode q (λ lies. away.0 (only q lies)));
      rest = inr (
        fd,
        on,
        record {
          there = ap (has before.nodes) at_slot ∙ alive;
          gone = ap (kind_of (shown (world_of k))) at_slot ∙ ap (λ s. kind_of s d.inode) tree_left
              ∙ let_go_gone without d.inode dead;
          inodes = inodes ∙ ap (without_inode j.table.inodes) (sym at_slot);
          free = free_by true e;
          spares = spares_are;
        },
      );
    }
      where
        inodes : k.table.inodes ≡ without_inode j.table.inodes d.inode
        inodes = inodes_by true e

        not_living : (b : Bool) → true ≡ not b → b ≡ false
        not_living true e = absurd (cc e)
        not_living false e = refl

        dead : lives without d.inode ≡ false
        dead = not_living _ (sym e ∙ lets.dies before (spares_of j.seats.items) number old.client fd d h.table here_is
            holds refl alive)

        in_after : (q : ℕ) → inode_in (book_of k) q
            ≡ inode_in (record (book_of k) { inodes = without_inode j.table.inodes d.inode }) q
        in_after q = ap (λ ns. inode_in (record (book_of k) { inodes = ns }) q) inodes

        only : (q : ℕ) → inode_in (book_of j) q ≡ d.inode → q ≡ slot
        only q lies = one_slot (book_of j) j.table.places h.table.placed q slot (lies ∙ sym at_slot)
            (λ none. not_none (sym lies ∙ none))

    closes : FileStepped (book_of j) number call slot answer file' k
    closes = by lets.goes refl
      where
        by : (b : Bool) → lets.goes ≡ b → FileStepped (book_of j) number call slot answer file' k
        by true e = goes_so e
        by false e = stays_so e

  -- ---- memory ran out

  starves : IsFreeOn d (on_file what) → what ≢ files.Close → Starves (world_of j) (FdCommit number call)
  starves free other =
      starves_by (world_of j) (with_entry (world_of j) number call (reply_to (world_of j) number call))
      (FdCommit number call) number call refl
      (file_replies j h number call place old at numbered fd what is_call d idle holds
      (reply_to (world_of j) number call) room_left refl) room_left
      (record {
        takes = ap takes_memory is_call ∙ file_takes what fd other;
        passes = ap (refusals before (client_of before number)) is_call ∙ free before number fd held_by_caller;
      })

  unmade : k.seats.items ≡ j.seats.items → k.table ≡ j.table → k.history ≡ j.history → file' ≡ file
      → answer ≡ answers.NoMemory → IsFreeOn d (on_file what) → what ≢ files.Close
      → FileStepped (book_of j) number call slot answer file' k
  unmade seats table history stays is free other =
      let same_book = book_unchanged j k rules room gate history seats table in
      record {
        kept = kept_unchanged j k rules room gate history seats table h;
        does = starved_so (book_of j) (book_of k) number call answer is same_book (starves free other);
        lent = stays ∙ lent ∙ ap (λ b. slot_of b slot) (sym same_book);
        spares = same_spares (book_of j) (book_of k) (slot ∷ []) same_book;
        rest = inl (same_book ∙ ap (λ v. record (book_of j) { world = v })
            (sym (world_unchanged j k rules room gate history seats table)));
      }

-- ---- as the code finds it

module _ (j k : Inside) (h : IsKept j) (number : ℕ) (call : Call) (place : ℕ) (old : Seat)
    (at : slice_get j.seats.items place ≡ Some old) (numbered : number ≡ suc place)
    (fd : ℕ) (d : Descriptor) (idle : old.walk ≡ None) (holds : get old.client.descriptors fd ≡ Some d)
    (slot : ℕ) (file : Held) (lent : file ≡ slot_of (book_of j) slot) (same : d.inode ≡ file.inode)
    (room_left : is_full (world_of j) ≡ false)
    (rules : k.rules ≡ j.rules) (room : k.room ≡ j.room) (gate : k.gate ≡ j.gate) (answer : Made) (file' : Held)
    (new : Seat) (seats : k.seats.items ≡ slice_set j.seats.items place new) where
  pub served : (what : FileCall) → call ≡ on_file what fd → (told : Result Reply AllocError)
      → IfOk told (λ reply. Serves fd d what old j.table file reply new k.table file')
      → OnErr told ((new ≡ old) × (k.table ≡ j.table) × (file' ≡ file))
      → OnErr told (IsFreeOn d (on_file what)) → OnErr told (what ≢ files.Close)
      → IfOk told (λ reply. (answer ≡ answers.Replied reply) × (k.history ≡ entered j number call reply))
      → OnErr told ((answer ≡ answers.NoMemory) × (k.history ≡ j.history))
      → FileStepped (book_of j) number call slot answer file' k
  served files.Close is_call (Ok reply) serves err free other ok bad =
      closes j k h number call place old at numbered fd files.Close is_call d idle holds slot file lent same room_left
      rules room gate answer file'
      is_call new seats serves.1 (subst (λ i. LetsGo i j.table k.table file file') (sym same) serves.2) reply serves.0
      ok.1 ok.0
  served (files.OnBytes asked) is_call (Ok reply) serves err free other ok bad =
      on_its_bytes j k h number call place old at numbered fd (files.OnBytes asked) is_call d idle holds slot file lent
      same room_left rules room gate answer file'
      asked is_call (seats ∙ ap (slice_set j.seats.items place) serves.0 ∙ set_again j.seats.items place old at)
      serves.1 reply serves.2 serves.3 ok.1 ok.0
  served what is_call (Err e) serves err free other ok bad =
      unmade j k h number call place old at numbered fd what is_call d idle holds slot file lent same room_left rules
      room gate answer file'
      (seats ∙ ap (slice_set j.seats.items place) err.0 ∙ set_again j.seats.items place old at) err.1 bad.1 err.2 bad.0
      free other

pub over_file_stepped : (b b' : Book) (number : ℕ) (call : Call) (slot : ℕ) (answer : Made) (file : Held) (k : Inside)
    → b ≡ b' → FileStepped b number call slot answer file k → FileStepped b' number call slot answer file k
over_file_stepped b b' number call slot answer file k e h =
    subst (λ (b : Book). FileStepped b number call slot answer file k) e h

pub over_file_not_now : (b b' : Book) (number : ℕ) (call : Call) → b ≡ b'
    → advance b.world (FdCommit number call) ≡ (NotNow, b.world)
    → advance b'.world (FdCommit number call) ≡ (NotNow, b'.world)
over_file_not_now b b' number call e h =
    subst (λ (b : Book). advance b.world (FdCommit number call) ≡ (NotNow, b.world)) e h

pub over_file_full : (b b' : Book) (number : ℕ) (call : Call) → b ≡ b'
    → advance b.world (FdCommit number call) ≡ (Replied (replies.Refused HistoryFull), b.world)
    → advance b'.world (FdCommit number call) ≡ (Replied (replies.Refused HistoryFull), b'.world)
over_file_full b b' number call e h =
    subst (λ (b : Book). advance b.world (FdCommit number call) ≡ (Replied (replies.Refused HistoryFull), b.world)) e h
