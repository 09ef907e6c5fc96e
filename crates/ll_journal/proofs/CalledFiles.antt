-- Which calls are made on a descriptor that their client has, and where that one's file lies.
use Rattle.std.specs.Prelude.{◌≡◌, ◌≢◌, ℕ, suc, Bool, true, false, cond, not, ◌&&◌, Option, Some, None, IfSome, IfNone}
use Rattle.std.specs.Prelude.{is_none, is_some, option_map, option_and_then, unwrap_or, slice_get, refl}
use Rattle.std.specs.Option.{option_map_or}
use Rattle.std.proofs.Common.{sym, ap, ◌∙◌}
use Rattle.std.proofs.lemmas.Option.{get_or_from_slice_get}
use Rattle.ll_rights.specs.declared.errno.Errno.TheVariants.{HistoryFull}
use Rattle.ll_rights.specs.Kind.{is_dir}
use Rattle.ll_rights.specs.Map.{get, has}
use Rattle.ll_seq.specs.declared.call.Call.{Call}
use Rattle.ll_seq.specs.declared.client.ClientRecord.{ClientRecord}
use Rattle.ll_seq.specs.declared.client.Descriptor.{Descriptor}
use Rattle.ll_seq.specs.declared.reply.Reply.{Reply}
use Rattle.ll_seq.specs.declared.reply.Reply.TheVariants as replies
use Rattle.ll_seq.specs.State.{new_client}
use Rattle.ll_seq.specs.Step.{client_of}
use Rattle.ll_laws.specs.Walk.{Walk}
use Rattle.ll_laws.specs.World.{World, NotNow, Replied, advance, shown, descriptor_of, is_idle, is_full}
use Rattle.ll_laws.specs.World.{is_on_descriptor, reply_to}
use Rattle.ll_laws.specs.declared.step.Step.TheVariants.{FdCommit}
use Rattle.ll_laws.proofs.Shapes.{with_entry}
use Rattle.ll_node.specs.declared.held.Held.{Held}
use Rattle.ll_journal.specs.declared.files.BytesCall.TheVariants as onto
use Rattle.ll_journal.specs.declared.files.FileCall.{FileCall}
use Rattle.ll_journal.specs.declared.files.FileCall.TheVariants as files
use Rattle.ll_journal.specs.declared.journal.Journal.TheInside.{Inside}
use Rattle.ll_journal.specs.Book.{Seat, inode_in, slot_of, held_of}
use Rattle.ll_journal.specs.Direct.{IsOpen, IsAstrayOn}
use Rattle.ll_journal.specs.Files.{on_file}
use Rattle.ll_journal.specs.Kept.{IsKept, seat_at, world_of, book_of}
use Rattle.ll_journal.proofs.Advances.{direct_not_now, direct_full, direct_replies}
use Rattle.ll_journal.proofs.Begun.{walk_at}
use Rattle.ll_journal.proofs.FileCalls.{on_descriptor, on_none}
use Rattle.ll_journal.proofs.LentSlots.{slot_holds, slot_inode, got_of_index}
use Rattle.ll_journal.proofs.OpenFiles.{descriptor_file}
use Rattle.ll_journal.proofs.OwnSteps.{there}

-- ---- whether the call is one for this step

abbrev may_on : Seat → Call → Bool
may_on seat call = is_none seat.walk && is_on_descriptor seat.client call

-- what the client has open under a number, unless it has a walk under way
abbrev pub opened_idle : Seat → ℕ → Option Descriptor
opened_idle seat fd = cond (is_none seat.walk) (get seat.client.descriptors fd) None

not_some : {A : Type 0} (o : Option A) → not (is_some o) ≡ is_none o
not_some None = refl
not_some (Some x) = refl

none_open : (b : Bool) (o : Option Descriptor) → cond b o None ≡ None → (b && is_some o) ≡ false
none_open true o e = ap is_some e
none_open false o e = refl

pub idle_open : (seat : Seat) (fd : ℕ) (d : Descriptor) → opened_idle seat fd ≡ Some d → (seat.walk ≡ None)
    × (get seat.client.descriptors fd ≡ Some d)
idle_open seat fd d e = by seat.walk refl
  where
    by : (o : Option Walk) → seat.walk ≡ o → (seat.walk ≡ None) × (get seat.client.descriptors fd ≡ Some d)
    by None is = (is, ap (λ o. cond (is_none o) (get seat.client.descriptors fd) None) (sym is) ∙ e)
    by (Some x) is = absurd (cc (sym (ap (λ o. cond (is_none o) (get seat.client.descriptors fd) None) is) ∙ e))

on_number : (fd : ℕ) (what : FileCall) → descriptor_of (on_file what fd) ≡ Some fd
on_number fd files.Close = refl
on_number fd (files.OnBytes (onto.Read offset count)) = refl
on_number fd (files.OnBytes (onto.Write offset bytes)) = refl
on_number fd (files.OnBytes (onto.Resize size)) = refl

module _ (j : Inside) (h : IsKept j) (number : ℕ) (call : Call) where
  abbrev w : World
  w = world_of j

  abbrev told : Option ClientRecord → Option Walk → Bool
  told client walk = (is_some client && not (is_some walk)) && is_on_descriptor (unwrap_or client new_client) call

  abbrev in_seat : Option Seat → Bool
  in_seat o = option_map_or (λ (seat : Seat). may_on seat call) o false

  may_is : (is_idle w number && is_on_descriptor (client_of (shown w) number) call)
      ≡ in_seat (seat_at j.seats.items number)
  may_is =
      ap (λ c. told c (get w.walks number)) (h.seated number)
      ∙ ap (told (option_map (λ (seat : Seat). seat.client) (seat_at j.seats.items number)))
      (walk_at j.seats.items number)
      ∙ by (seat_at j.seats.items number)
    where
      by : (o : Option Seat) → told (option_map (λ (seat : Seat). seat.client) o)
          (option_and_then (λ (seat : Seat). seat.walk) o) ≡ in_seat o
      by None = refl
      by (Some seat) = ap (λ b. b && is_on_descriptor seat.client call) (not_some seat.walk)

  pub no_seat : seat_at j.seats.items number ≡ None → advance w (FdCommit number call) ≡ (NotNow, w)
  no_seat none = direct_not_now w number (is_on_descriptor (client_of (shown w) number) call) call (may_is
      ∙ ap in_seat none)

  pub no_descriptor : descriptor_of call ≡ None → advance w (FdCommit number call) ≡ (NotNow, w)
  no_descriptor none = direct_not_now w number (is_on_descriptor (client_of (shown w) number) call) call
      (ap (λ b. is_idle w number && b) (on_none (client_of (shown w) number) call none) ∙ never (is_idle w number))
    where
      never : (b : Bool) → (b && false) ≡ false
      never true = refl
      never false = refl

  module _ (place : ℕ) (seat : Seat) (at : slice_get j.seats.items place ≡ Some seat) (numbered : number ≡ suc place)
      (fd : ℕ) (what : FileCall) (is_call : call ≡ on_file what fd) where
    stands : seat_at j.seats.items number ≡ Some seat
    stands = ap (seat_at j.seats.items) numbered ∙ at

    seat_may : in_seat (seat_at j.seats.items number) ≡ (is_none seat.walk && has seat.client.descriptors fd)
    seat_may = ap in_seat stands ∙ ap (λ b. is_none seat.walk && b) (on_descriptor seat.client call fd what is_call)

    pub not_open : opened_idle seat fd ≡ None → advance w (FdCommit number call) ≡ (NotNow, w)
    not_open none = direct_not_now w number (is_on_descriptor (client_of (shown w) number) call) call (may_is ∙ seat_may
        ∙ none_open (is_none seat.walk) (get seat.client.descriptors fd) none)

    module _ (d : Descriptor) (idle : seat.walk ≡ None) (holds : get seat.client.descriptors fd ≡ Some d) where
      may : (is_idle w number && is_on_descriptor (client_of (shown w) number) call) ≡ true
      may = may_is ∙ seat_may ∙ (λ i. is_none (idle i) && is_some (holds i))

      here : get (shown w).clients number ≡ Some seat.client
      here = there j h number call place seat at numbered

      pub astray : (slot : ℕ) → inode_in (book_of j) slot ≢ d.inode → IsAstrayOn (book_of j) number call slot
      astray slot away = record {
        number = fd;
        file = d;
        on = ap descriptor_of is_call ∙ on_number fd what;
        is_open = record { caller = seat.client; there = here; holds = holds };
        idle = walk_at j.seats.items number ∙ ap (option_and_then (λ (s : Seat). s.walk)) stands ∙ idle;
        elsewhere = away;
      }

      pub file_full : is_full w ≡ true → advance w (FdCommit number call) ≡ (Replied (replies.Refused HistoryFull), w)
      file_full full = direct_full w number (is_on_descriptor (client_of (shown w) number) call) call may full

      pub file_replies : (reply : Reply) → is_full w ≡ false → reply ≡ reply_to w number call
          → advance w (FdCommit number call) ≡ (Replied reply, with_entry w number call reply)
      file_replies reply room is = direct_replies w number (is_on_descriptor (client_of (shown w) number) call) call may
          room ∙ (λ i. (Replied (sym is i), with_entry w number call (sym is i)))

-- ---- what lies in the lent slot

module _ (j : Inside) (h : IsKept j) (number place : ℕ) (seat : Seat) (at : slice_get j.seats.items place ≡ Some seat)
    (numbered : number ≡ suc place) (fd : ℕ) (d : Descriptor)
    (holds : get seat.client.descriptors fd ≡ Some d) where
  pub owner : get (shown (world_of j)).clients number ≡ Some seat.client
  owner = h.seated number ∙ ap (option_map (λ (s : Seat). s.client)) (ap (seat_at j.seats.items) numbered ∙ at)

  pub owner_of : client_of (shown (world_of j)) number ≡ seat.client
  owner_of = ap (λ o. unwrap_or o new_client) owner

  pub lives_on : has (shown (world_of j)).nodes d.inode ≡ true
  lives_on = (descriptor_file (world_of j) number fd seat.client d owner holds).0

  -- an open file lies in some slot
  pub place_is : (slot : ℕ) × (get j.table.places d.inode ≡ Some slot)
  place_is = by (get j.table.places d.inode) refl (h.table.living d.inode ∙ lives_on)
    where
      by : (o : Option ℕ) → get j.table.places d.inode ≡ o → is_some o ≡ true → (slot : ℕ)
          × (get j.table.places d.inode ≡ Some slot)
      by None e there = absurd (cc there)
      by (Some slot) e there = (slot, e)

  pub some_inode : d.inode ≢ 0
  some_inode = (h.table.placed.there d.inode place_is.0 place_is.1).1

  pub same_inode : (slot : ℕ) (file : Held) → file ≡ slot_of (book_of j) slot → file.inode ≡ inode_in (book_of j) slot
  same_inode slot file lent = ap (λ (f : Held). f.inode) lent ∙ slot_inode (book_of j) slot

  module _ (slot : ℕ) (file : Held) (lent : file ≡ slot_of (book_of j) slot) (same : d.inode ≡ file.inode) where
    pub lies : inode_in (book_of j) slot ≡ d.inode
    lies = sym (same_inode slot file lent) ∙ sym same

    pub file_is : file ≡ held_of (world_of j) d.inode
    file_is = lent ∙ slot_holds (book_of j) slot d.inode lies some_inode

    pub plain : is_dir file.node.kind ≡ false
    plain = ap (λ (f : Held). is_dir f.node.kind) file_is
        ∙ (descriptor_file (world_of j) number fd seat.client d owner holds).1

    pub placed_at : get j.table.places d.inode ≡ Some slot
    placed_at = h.table.placed.lies slot d.inode (got_of_index j.table.inodes slot d.inode lies some_inode) some_inode

-- ---- where the file lies

module _ (j : Inside) (h : IsKept j) (number place : ℕ) (seat : Seat) (at : slice_get j.seats.items place ≡ Some seat)
    (numbered : number ≡ suc place) (fd : ℕ) where
  pub slot_there : (d : Descriptor) → get seat.client.descriptors fd ≡ Some d → (found : Option ℕ)
      → found ≡ get j.table.places d.inode
      → IfSome found (λ slot. (file : Descriptor) × IsOpen (world_of j) number fd file
      × (inode_in (book_of j) slot ≡ file.inode))
  slot_there d holds None is = tt
  slot_there d holds (Some slot) is = (
    d,
    record { caller = seat.client; there = owner j h number place seat at numbered fd d holds; holds = holds },
    get_or_from_slice_get j.table.inodes slot d.inode 0 (h.table.placed.there d.inode slot (sym is)).0,
  )

  pub slot_none : (d : Descriptor) → get seat.client.descriptors fd ≡ Some d → (found : Option ℕ)
      → found ≡ get j.table.places d.inode → IfNone found ((file : Descriptor) → IsOpen (world_of j) number fd file → ⊥)
  slot_none d holds None is = let some = place_is j h number place seat at numbered fd d holds in
      absurd (cc (is ∙ some.1))
  slot_none d holds (Some slot) is = tt
