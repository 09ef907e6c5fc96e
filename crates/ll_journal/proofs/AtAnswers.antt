-- A walk that has ended where each branch is at its end: what its call is made with.
use Rattle.std.specs.Prelude.{◌≡◌, ℕ, zero, suc, ◌+◌, ◌-◌, ◌<◌, ◌≤◌, ◌^◌, Bool, true, false, not, ◌&&◌, ◌||◌, ◌==◌}
use Rattle.std.specs.Prelude.{List, [], ◌∷◌, map, length, Option, Some, None, nat_le, slice_get, slice_index_or}
use Rattle.std.specs.Prelude.{unwrap_or, refl}
use Rattle.std.specs.List.{list_any}
use Rattle.std.proofs.Common.{sym, subst, ap, ◌∙◌, arith}
use Rattle.std.proofs.lemmas.Bool.{eq-eqb}
use Rattle.std.proofs.lemmas.Bool.Decides.{nat_tests}
use Rattle.ll_rights.specs.declared.limits.TheConstants.{HISTORY_ENTRIES, TREE_CLIENTS}
use Rattle.ll_rights.specs.Map.{get}
use Rattle.ll_path.specs.Path.{Path}
use Rattle.ll_decide.specs.Masks.{AreMasks}
use Rattle.ll_laws.proofs.Chains.{same_Some}
use Rattle.ll_seq.specs.Found.{AreFacts}
use Rattle.ll_seq.specs.Passed.{has_path}
use Rattle.ll_seq.specs.declared.found.Found.{Found}
use Rattle.ll_seq.specs.declared.found.Spot.{Spot}
use Rattle.ll_node.specs.Enactment.{Scene, InHand, IsGiven}
use Rattle.ll_node.specs.declared.held.Held.{Held}
use Rattle.ll_node.specs.InodeTable.{AreDistinct}
use Rattle.ll_seq.specs.declared.call.Call.{Call}
use Rattle.ll_seq.specs.declared.call.Call.TheVariants.{Spawn}
use Rattle.ll_seq.specs.declared.client.ClientRecord.{ClientRecord}
use Rattle.ll_seq.specs.Call.{first_path, second_path, targets}
use Rattle.ll_seq.specs.State.{State, kind_of, new_client}
use Rattle.ll_seq.specs.Step.{client_of}
use Rattle.ll_laws.specs.Commits.{first_end, second_end}
use Rattle.ll_laws.specs.Walk.{Walk, Leg, Position, Above, Down, Split, is_in, marks}
use Rattle.ll_laws.specs.World.{World, domain_of, has_any, is_full, is_walked, shown, without_walk}
use Rattle.ll_seq.specs.Stages.{early_refusals}
use Rattle.ll_seq.proofs.Parted.{or_left, or_right}
use Rattle.ll_laws.proofs.SoundSteps.{marked_below}
use Rattle.ll_laws.proofs.StepGrowth.{gone}
use Rattle.ll_laws.proofs.Tests.{both, is_nil, not_true}
use Rattle.ll_journal.specs.declared.journal.Journal.TheInside.{Inside}
use Rattle.ll_journal.specs.Book.{Seat, Book, inode_in, has_mark, slot_of}
use Rattle.ll_journal.specs.Performed.{IsEndAt}
use Rattle.ll_journal.specs.WalkEnds.{is_lent, spare_of}
use Rattle.ll_journal.specs.Kept.{IsKept, world_of, book_of, spares_of}
use Rattle.ll_journal.specs.declared.seat.Ended.{Ended}
use Rattle.ll_journal.specs.Performed.{EndsAs, IsAtEnd, at_seat, lies_in}
use Rattle.ll_journal.specs.Stopped.{IsEndOf, IsReachedEnd}
use Rattle.ll_journal.proofs.Begun.{names_one}
use Rattle.ll_journal.proofs.Committed.{scene_at, told_slots}
use Rattle.ll_journal.proofs.RootDescents.{walk_here}
use Rattle.ll_journal.proofs.MarkOf.{mark_none, whose_mark}
use Rattle.ll_journal.proofs.Starts.{at_place}
use Rattle.ll_journal.proofs.OwnSteps.{there}
use Rattle.ll_journal.proofs.ClientTables.{many_spares}

left_true : (a b : Bool) → (a && b) ≡ true → a ≡ true
left_true true b e = refl
left_true false b e = absurd (cc e)

-- a walk stands where its legs do
first_marked : (at : Position) (leg : Leg) → first_end at ≡ Some leg → (walk : Walk) → walk.at ≡ at
    → marks walk leg.here ≡ true
first_marked Above leg e walk is = absurd (cc e)
first_marked (Down trunk) leg e walk is =
    ap (λ p. marks (record walk { at = p }) leg.here) is
    ∙ or_left (trunk.here == leg.here) false
    (eq-eqb trunk.here leg.here (ap (λ (l : Leg). l.here) (same_Some trunk leg e)))
first_marked (Split trunk old new) leg e walk is =
    ap (λ p. marks (record walk { at = p }) leg.here) is
    ∙ or_right (trunk.here == leg.here) ((old.here == leg.here) || ((new.here == leg.here) || false))
    (or_left (old.here == leg.here) ((new.here == leg.here) || false)
    (eq-eqb old.here leg.here (ap (λ (l : Leg). l.here) (same_Some old leg e))))

second_marked : (at : Position) (leg : Leg) → second_end at ≡ Some leg → (walk : Walk) → walk.at ≡ at
    → marks walk leg.here ≡ true
second_marked Above leg e walk is = absurd (cc e)
second_marked (Down trunk) leg e walk is =
    ap (λ p. marks (record walk { at = p }) leg.here) is
    ∙ or_left (trunk.here == leg.here) false
    (eq-eqb trunk.here leg.here (ap (λ (l : Leg). l.here) (same_Some trunk leg e)))
second_marked (Split trunk old new) leg e walk is =
    ap (λ p. marks (record walk { at = p }) leg.here) is
    ∙ or_right (trunk.here == leg.here) ((old.here == leg.here) || ((new.here == leg.here) || false))
    (or_right (old.here == leg.here) ((new.here == leg.here) || false)
    (or_left (new.here == leg.here) false
    (eq-eqb new.here leg.here (ap (λ (l : Leg). l.here) (same_Some new leg e)))))

pub spare_at : (seats : List Seat) (place : ℕ) (seat : Seat) → slice_get seats place ≡ Some seat
    → slice_get (spares_of seats) place ≡ Some seat.spare
spare_at [] place seat at = absurd (cc at)
spare_at (z ∷ seats) zero seat at = ap (λ (s : Seat). Some s.spare) (same_Some z seat at)
spare_at (z ∷ seats) (suc place) seat at = spare_at seats place seat at

index_of : (ks : List ℕ) (place k : ℕ) → slice_get ks place ≡ Some k → slice_index_or ks place 0 ≡ k
index_of [] place k at = absurd (cc at)
index_of (x ∷ ks) zero k at = same_Some x k at
index_of (x ∷ ks) (suc place) k at = index_of ks place k at

in_map : (f : ℕ → ℕ) (slots : List ℕ) (x : ℕ) → is_in (map f slots) x ≡ list_any (λ k. f k == x) slots
in_map f [] x = refl
in_map f (k ∷ slots) x = ap (λ b. (f k == x) || b) (in_map f slots x)

small_enough : (next len limit : ℕ) → next ≤ len + 2 → nat_le limit len ≡ false → limit ≤ HISTORY_ENTRIES
    → next < 2 ^ 64 - 1
small_enough next len limit few room most = grind (arith, nat_tests)

-- The walk has ended, and this is left of it. j: the journal before, i: after
pub record EndedSo (j i : Inside) (number place : ℕ) (slots : List ℕ) (found : Found) (walk : Ended) (lent : List Held)
    (seat : Seat) : Type 0 where
  pub reached : IsReachedEnd (book_of j) number slots found
  pub world : world_of i ≡ without_walk (world_of j) number
  pub inodes : i.table.inodes ≡ j.table.inodes
  pub spares : spares_of i.seats.items ≡ spares_of j.seats.items
  pub left : EndsAs (domain_of (world_of j) number) reached.walk walk
  pub told : lent ≡ map (slot_of (book_of i)) slots
  pub at : slice_get i.seats.items place ≡ Some seat

module _ {j i : Inside} (h : IsKept j) (mid : IsKept i) {number place : ℕ} (numbered : number ≡ suc place)
    {slots : List ℕ} (distinct : AreDistinct slots) {found : Found} {walk : Ended} {lent : List Held} {seat : Seat}
    (so : EndedSo j i number place slots found walk lent seat) (room_left : is_full (world_of i) ≡ false) where
  open so use {reached as r, world, inodes, spares, left, told, at}

  abbrev scene : Scene
  scene = scene_at i number place

  abbrev hand : InHand
  hand = at_seat seat i.table slots lent

  pub seat_idle : seat.walk ≡ None
  seat_idle = sym (walk_here i mid number place seat at numbered) ∙ ap (λ (w : World). get w.walks number) world
      ∙ gone (world_of j).walks number

  tree : shown (world_of i) ≡ shown (world_of j)
  tree = ap shown world

  client : get (shown (world_of i)).clients number ≡ Some seat.client
  client = there i mid number Spawn place seat at numbered

  domain : domain_of (world_of j) number ≡ seat.client.domain
  domain = ap (λ (s : State). (client_of s number).domain) (sym tree)
      ∙ ap (λ (o : Option ClientRecord). (unwrap_or o new_client).domain) client

  lies : (x : ℕ) → is_lent (book_of j) slots x ≡ true → lies_in hand x
  lies x e = subst (λ ns. list_any (λ k. slice_index_or ns k 0 == x) slots ≡ true) (sym inodes)
      (sym (in_map (inode_in (book_of j)) slots x) ∙ e)

  end_at : (path : Path) (spot : Spot) (leg : Leg) (masks : List ℕ) → IsEndOf (shown (world_of j)) path spot leg
      → AreMasks masks (domain_of (world_of j) number) leg.chain
      → IsEndAt (shown (world_of i)) seat.client.domain path spot masks
  end_at path spot leg masks e granted = subst (λ s. IsEndAt s seat.client.domain path spot masks) (sym tree) (record {
    way = e.way;
    names = e.names ∙ ap Some (sym e.here);
    directory = ap (λ x. kind_of (shown (world_of j)) x) e.here ∙ e.directory;
    masks = subst (AreMasks masks seat.client.domain) e.chain
        (subst (λ ls. AreMasks masks ls leg.chain) domain granted);
  })

  nobody : (n : ℕ) → has_mark (world_of i) (shown (world_of i)).next n ≡ false
  nobody n = by (has_mark (world_of i) (shown (world_of i)).next n) refl
    where
      by : (b : Bool) → has_mark (world_of i) (shown (world_of i)).next n ≡ b → b ≡ false
      by false e = refl
      by true e =
          let walk = whose_mark (world_of i) (shown (world_of i)).next n e in
          let less = marked_below (world_of i) mid.sound n walk.0 walk.1 (shown (world_of i)).next walk.2 in
          absurd (omega (arith, less))

  given : IsGiven scene hand
  given = record {
    reached = record {
      rules = i.rules;
      room = i.room;
      entries = i.history.entries;
      legal = mid.sound.legal;
      is = refl;
    };
    counted = mid.table;
    kept = spare_at i.seats.items place seat at;
    crowd = subst (λ n. n ≤ TREE_CLIENTS) (sym (many_spares i.seats.items)) mid.crowd;
    numbers = small_enough i.table.next (length i.history.entries) i.history.limit mid.numbers room_left mid.small;
    client = client;
    apart = distinct;
    told = told ∙ told_slots (book_of i) slots;
    unmarked = mark_none (world_of i) (shown (world_of i)).next nobody;
  }

  spare_is : spare_of (book_of j) number ≡ seat.spare
  spare_is =
      let less : suc place - 1 ≡ place = omega arith in
      (λ x. slice_index_or (sym spares x) (numbered x - 1) 0)
      ∙ ap (λ n. slice_index_or (spares_of i.seats.items) n 0) less
      ∙ index_of (spares_of i.seats.items) place seat.spare (spare_at i.seats.items place seat at)

  walked : is_walked seat.client r.walk.call ≡ true
  walked =
      ap (λ c. is_walked c r.walk.call)
      (sym (ap (λ s. client_of s number) (sym tree)
      ∙ ap (λ (o : Option ClientRecord). unwrap_or o new_client) client))
      ∙ (h.sound.valid number r.walk r.ends.is).0.walked

  early : early_refusals seat.client r.walk.call ≡ []
  early = is_nil (early_refusals seat.client r.walk.call)
      (not_true _ (both (has_any (targets r.walk.call)) (not (has_any (early_refusals seat.client r.walk.call)))
      walked).1)

  path : has_path r.walk.call ≡ true
  path = names_one r.walk.call
      (left_true (has_any (targets r.walk.call)) _ ((h.sound.valid number r.walk r.ends.is).0.walked))

  pub at_end : IsAtEnd scene hand walk found
  at_end = subst (λ (ended : Ended). IsAtEnd scene hand ended found)
      (λ x. record walk { call = sym left.call x }) (record {
        given = given;
        path = path;
        early = early;
        facts = subst (λ s. AreFacts s r.walk.call found) (sym tree) r.facts;
        old = end_at (first_path r.walk.call) found.first r.first walk.first r.old (left.first r.first r.first_is);
        new = end_at (second_path r.walk.call) found.second r.second walk.second r.new
            (left.second r.second r.second_is);
        old_lent = lies found.first.directory
            (r.ends.marked found.first.directory (ap (marks r.walk) r.old.here
            ∙ first_marked r.walk.at r.first r.first_is r.walk refl));
        new_lent = lies found.second.directory
            (r.ends.marked found.second.directory (ap (marks r.walk) r.new.here
            ∙ second_marked r.walk.at r.second r.second_is r.walk refl));
        nodes = λ x e some. lies x (r.nodes x e some);
        kept = λ e. subst (λ k. is_in slots k ≡ true) spare_is (r.spare e);
      })

-- ---- as the code finds it

pub ended_so : (j i : Inside) (b v : Book) → book_of j ≡ b → book_of i ≡ v
    → (number place : ℕ) (slots : List ℕ) (found : Found) → IsReachedEnd b number slots found
    → v.world ≡ without_walk b.world number → v ≡ record b { world = v.world }
    → (ended : Ended)
    → ((walk : Walk) → get b.world.walks number ≡ Some walk → EndsAs (domain_of b.world number) walk ended)
    → (lent lent' : List Held) → lent ≡ map (slot_of b) slots
    → ((slots : List ℕ) → lent ≡ map (slot_of b) slots → lent' ≡ map (slot_of v) slots)
    → (seat : Seat) → place < length b.spares → number ≡ suc place → seat ≡ slice_index_or i.seats.items place seat
    → EndedSo j i number place slots found ended lent' seat
ended_so j i b v eb ev number place slots found q without rest ended left lent lent' told tells seat within numbered
    value =
    let r : IsReachedEnd (book_of j) number slots found =
    subst (λ (x : Book). IsReachedEnd x number slots found) (sym eb) q in
    let is : get b.world.walks number ≡ Some r.walk =
    ap (λ (x : Book). get x.world.walks number) (sym eb) ∙ r.ends.is in
    let same_spares : spares_of i.seats.items ≡ b.spares =
    ap (λ (x : Book). x.spares) ev ∙ ap (λ (x : Book). x.spares) rest in
    record {
      reached = r;
      world = ap (λ (x : Book). x.world) ev ∙ without ∙ ap (λ (x : Book). without_walk x.world number) (sym eb);
      inodes = ap (λ (x : Book). x.inodes) ev ∙ ap (λ (x : Book). x.inodes) rest ∙ ap (λ (x : Book). x.inodes) (sym eb);
      spares = same_spares ∙ ap (λ (x : Book). x.spares) (sym eb);
      left = subst (λ (x : Book). EndsAs (domain_of x.world number) r.walk ended) (sym eb) (left r.walk is);
      told = tells slots told ∙ ap (λ (x : Book). map (slot_of x) slots) (sym ev);
      at = at_place i.seats.items i.seats.items number place seat refl
          (numbered, subst (λ n. place < n) (ap length (sym same_spares) ∙ many_spares i.seats.items) within) value;
    }
