-- The first descent of a walk, to the root.
use Rattle.std.specs.Prelude.{◌≡◌, ◌≢◌, ℕ, suc, Bool, true, false, cond, not, ◌&&◌, ◌||◌, ◌==◌, [], ◌∷◌, Option, Some}
use Rattle.std.specs.Prelude.{None, is_none, option_map, option_and_then, unwrap_or, slice_get, refl}
use Rattle.std.specs.Option.{option_map_or}
use Rattle.std.specs.Ordering.{nat_cmp}
use Rattle.std.proofs.Common.{sym, subst, ap, ◌∙◌}
use Rattle.std.proofs.lemmas.Bool.{eqb-true, eq-eqb}
use Rattle.ll_rights.specs.Map.{Map, get, insert}
use Rattle.ll_node.specs.Slot.{Slot}
use Rattle.ll_seq.specs.State.{root, new_client}
use Rattle.ll_seq.specs.declared.client.ClientRecord.{ClientRecord}
use Rattle.ll_laws.proofs.Chains.{same_Some}
use Rattle.ll_laws.specs.Walk.{Walk, Position, Above, Down, Split, marks, is_above, first_leg, trunk_path, further}
use Rattle.ll_laws.specs.Walk.{turn}
use Rattle.ll_laws.specs.World as world
use Rattle.ll_laws.specs.World.{World, Outcome, Stands, advance, shown, domain_of, descend, is_marked}
use Rattle.ll_laws.specs.declared.step.Step.TheVariants.{Descend}
use Rattle.ll_laws.specs.Sound.{IsSound}
use Rattle.ll_laws.proofs.Shapes as shapes
use Rattle.ll_laws.proofs.Shapes.{may_hold}
use Rattle.ll_node.specs.declared.held.Held.{Held}
use Rattle.ll_journal.specs.declared.journal.Journal.TheInside.{Inside}
use Rattle.ll_journal.specs.declared.check_step.StepCheck.TheVariants.{NotNow, Astray, Go}
use Rattle.ll_journal.specs.Book.{Seat, Book, Spares, inode_in, slot_of, mark_of}
use Rattle.ll_journal.specs.Kept.{IsKept, seat_at, walks_from, world_of, book_of}
use Rattle.ll_journal.specs.Checks.{check_enter}
use Rattle.ll_journal.specs.Seated.{entered}
use Rattle.ll_journal.specs.Steps.{IsAstrayAtTop}
use Rattle.ll_journal.proofs.Begun.{walk_at, walks_put}
use Rattle.ll_journal.proofs.MarkOf.{AreClients, are_clients, has_mark_of, mark_put}
use Rattle.ll_journal.proofs.LentAfter.{inode_is, unmarked_is, lent_after, spares_moved, one_slot}
use Rattle.ll_journal.proofs.Starts.{changed_world, sound_after}

-- ---- a client's walk

pub no_walk : (j : Inside) (number : ℕ) → seat_at j.seats.items number ≡ None → get (world_of j).walks number ≡ None
no_walk j number none = walk_at j.seats.items number ∙ ap (option_and_then (λ (seat : Seat). seat.walk)) none

module _ (j : Inside) (h : IsKept j) (number place : ℕ) (seat : Seat) (at : slice_get j.seats.items place ≡ Some seat)
    (numbered : number ≡ suc place) where
  seated_here : seat_at j.seats.items number ≡ Some seat
  seated_here = ap (seat_at j.seats.items) numbered ∙ at

  pub walk_here : get (world_of j).walks number ≡ seat.walk
  walk_here = walk_at j.seats.items number ∙ ap (option_and_then (λ (seat : Seat). seat.walk)) seated_here

  pub domain_here : domain_of (world_of j) number ≡ seat.client.domain
  domain_here =
      ap (λ (o : Option ClientRecord). (unwrap_or o new_client).domain)
      (h.seated number ∙ ap (option_map (λ (seat : Seat). seat.client)) seated_here)

  pub known_here : AreClients (world_of j)
  known_here = are_clients (world_of j) h.sound

  pub world_put : (new : Seat) (walk : Walk) (gate : Option ℕ) → new.walk ≡ Some walk
      → changed_world j place new gate
      ≡ record (world_of j) { walks = insert (world_of j).walks number walk; gate = gate }
  world_put new walk gate is =
      ap (λ (m : Map nat_cmp Walk). record (world_of j) { walks = m; gate = gate })
      (walks_put j.seats.items place seat new walk at is
      ∙ ap (λ n. insert (walks_from 1 j.seats.items) n walk) (sym numbered))

-- what is there is one seat
pub one_seat : (j : Inside) (place : ℕ) (one other : Seat) → slice_get j.seats.items place ≡ Some one
    → slice_get j.seats.items place ≡ Some other → one ≡ other
one_seat j place one other a b = same_Some one other (sym a ∙ b)

-- ---- whether it may go to the root

none_left : (t : Bool) → cond t Go NotNow ≡ NotNow → t ≡ false
none_left true e = absurd (cc e)
none_left false e = refl

all_there : (t : Bool) → cond t Go NotNow ≡ Go → t ≡ true
all_there true e = refl
all_there false e = absurd (cc e)

-- a walk that may go to the root
pub record GoesToRoot (j : Inside) (number : ℕ) (seat : Seat) (slot : Held) : Type 0 where
  pub walk : Walk
  pub is : seat.walk ≡ Some walk
  pub top : is_above walk.at ≡ true
  pub here : slot.inode ≡ root
  pub step : advance (world_of j) (Descend number) ≡ (Stands root, shapes.entered (world_of j) number walk)

module _ (j : Inside) (h : IsKept j) (number place : ℕ) (seat : Seat) (at : slice_get j.seats.items place ≡ Some seat)
    (numbered : number ≡ suc place)
    (k : ℕ) (slot : Held) (lent : slot ≡ slot_of (book_of j) k) where
  abbrev w : World
  w = world_of j

  abbrev answer : Option (Outcome × World) → Outcome × World
  answer o = unwrap_or o (world.NotNow, w)

  abbrev gated : Walk → Bool
  gated walk = not (walk.starts == 4) || may_hold w number

  unmarked : (slot.inode == root) ≡ true → is_none slot.node.mark ≡ not (is_marked w root)
  unmarked here =
      let inode : slot.inode ≡ root = eqb-true slot.inode root here in
      unmarked_is (book_of j) k slot lent (λ z. cc (sym inode ∙ z)) (known_here j h number place seat at numbered)
      ∙ ap (λ i. not (is_marked w i)) inode

  found : (o : Option Walk) → seat.walk ≡ o → advance w (Descend number) ≡ answer (option_and_then (descend w number) o)
  found o e = ap (λ (v : Option Walk). answer (option_and_then (descend w number) v))
      (walk_here j h number place seat at numbered ∙ e)

  not_now_by : (o : Option Walk) → check_enter (record seat { walk = o }) j.gate number slot ≡ NotNow
      → answer (option_and_then (descend w number) o) ≡ (world.NotNow, w)
  not_now_by None l = refl
  not_now_by (Some walk) l = by walk.stale (is_above walk.at) (slot.inode == root) refl refl refl l
    where
      by : (s a t : Bool) → walk.stale ≡ s → is_above walk.at ≡ a → (slot.inode == root) ≡ t
          → cond (not (not s)) NotNow (cond (not (a && t)) Astray
          (cond (is_none slot.node.mark && gated walk) Go NotNow)) ≡ NotNow
          → answer (option_and_then (descend w number) (Some walk)) ≡ (world.NotNow, w)
      by true a t e f g l = ap (λ b. answer
          (cond b None (cond (is_above walk.at) (world.enter w number walk)
          (option_and_then (world.stand w number walk)
          (option_and_then (further (shown w) (domain_of w number)) (turn walk.at)))))) e
      by false true true e f g l =
          ap (λ b. answer (cond b None (cond (is_above walk.at) (world.enter w number walk)
          (option_and_then (world.stand w number walk)
          (option_and_then (further (shown w) (domain_of w number)) (turn walk.at)))))) e
          ∙ ap (λ b. answer (cond b (world.enter w number walk)
          (option_and_then (world.stand w number walk)
          (option_and_then (further (shown w) (domain_of w number)) (turn walk.at))))) f
          ∙ ap (λ b. answer (cond (b && gated walk) (Some (Stands root, shapes.entered w number walk)) None))
          (sym (unmarked g))
          ∙ ap (λ b. answer (cond b (Some (Stands root, shapes.entered w number walk)) None))
          (none_left (is_none slot.node.mark && gated walk) l)
      by false true false e f g l = absurd (cc l)
      by false false t e f g l = absurd (cc l)

  pub root_not_now : check_enter seat j.gate number slot ≡ NotNow → advance w (Descend number) ≡ (world.NotNow, w)
  root_not_now l = found seat.walk refl ∙ not_now_by seat.walk l

  goes_by : (o : Option Walk) → seat.walk ≡ o → check_enter (record seat { walk = o }) j.gate number slot ≡ Go
      → GoesToRoot j number seat slot
  goes_by None is l = absurd (cc l)
  goes_by (Some walk) is l = by walk.stale (is_above walk.at) (slot.inode == root) refl refl refl l
    where
      by : (s a t : Bool) → walk.stale ≡ s → is_above walk.at ≡ a → (slot.inode == root) ≡ t
          → cond (not (not s)) NotNow (cond (not (a && t)) Astray
          (cond (is_none slot.node.mark && gated walk) Go NotNow)) ≡ Go
          → GoesToRoot j number seat slot
      by true a t e f g l = absurd (cc l)
      by false true true e f g l = record {
        walk = walk;
        is = is;
        top = f;
        here = eqb-true slot.inode root g;
        step = found (Some walk) is
            ∙ ap (λ b. answer (cond b None
            (cond (is_above walk.at) (world.enter w number walk)
            (option_and_then (world.stand w number walk)
            (option_and_then (further (shown w) (domain_of w number)) (turn walk.at)))))) e
            ∙ ap (λ b. answer (cond b (world.enter w number walk)
            (option_and_then (world.stand w number walk)
            (option_and_then (further (shown w) (domain_of w number)) (turn walk.at))))) f
            ∙ ap (λ b. answer (cond (b && gated walk) (Some (Stands root, shapes.entered w number walk)) None))
            (sym (unmarked g))
            ∙ ap (λ b. answer (cond b (Some (Stands root, shapes.entered w number walk)) None))
            (all_there (is_none slot.node.mark && gated walk) l);
      }
      by false true false e f g l = absurd (cc l)
      by false false t e f g l = absurd (cc l)

  pub root_goes : check_enter seat j.gate number slot ≡ Go → GoesToRoot j number seat slot
  root_goes l = goes_by seat.walk refl l

  astray_by : (o : Option Walk) → check_enter (record seat { walk = o }) j.gate number slot ≡ Astray
      → (option_map_or (λ (walk : Walk). not walk.stale) o false ≡ true)
      × (option_map_or (λ (walk : Walk). is_above walk.at) o false ≡ true → slot.inode ≢ root)
  astray_by None l = absurd (cc l)
  astray_by (Some walk) l = (
    going walk.stale l,
    λ top here. by walk.stale (is_above walk.at) (slot.inode == root) top (eq-eqb slot.inode root here) l,
  )
    where
      going : (s : Bool) → cond (not (not s)) NotNow
          (cond (not (is_above walk.at && (slot.inode == root))) Astray
          (cond (is_none slot.node.mark && gated walk) Go NotNow)) ≡ Astray → not s ≡ true
      going true m = absurd (cc m)
      going false m = refl

      by_last : (b : Bool) → cond b Go NotNow ≡ Astray → ⊥
      by_last true m = cc m
      by_last false m = cc m

      by : (s a t : Bool) → a ≡ true → t ≡ true
          → cond (not (not s)) NotNow (cond (not (a && t)) Astray
          (cond (is_none slot.node.mark && gated walk) Go NotNow)) ≡ Astray → ⊥
      by true a t e f m = cc m
      by false true true e f m = by_last (is_none slot.node.mark && gated walk) m
      by false false t e f m = cc e
      by false true false e f m = cc f

  pub root_astray : check_enter seat j.gate number slot ≡ Astray → IsAstrayAtTop (book_of j) number k
  root_astray l =
      let astray = astray_by seat.walk l in
      let walk = walk_here j h number place seat at numbered in (
        ap (λ (o : Option Walk). option_map_or (λ (walk : Walk). not walk.stale) o false) walk ∙ astray.0,
        λ top here. astray.1 (ap (λ (o : Option Walk). option_map_or (λ (walk : Walk). is_above walk.at) o false)
            (sym walk) ∙ top) (inode_is (book_of j) k slot lent ∙ here),
      )

  -- ---- when it goes

  module _ (go : GoesToRoot j number seat slot) (new : Seat) (gate : Option ℕ)
      (new_is : new ≡ record seat { walk = option_map (entered seat.client.domain) seat.walk })
      (gate_is : gate ≡ cond (option_map_or (λ (walk : Walk). walk.starts == 4) seat.walk false) (Some number) j.gate)
    where
      abbrev low : Walk
      low = record go.walk { at = Down (first_leg (domain_of w number) (trunk_path go.walk.call)) }

      new_walk : new.walk ≡ Some low
      new_walk =
          ap (λ (s : Seat). s.walk) new_is ∙ ap (option_map (entered seat.client.domain)) go.is
          ∙ ap (λ d. Some (record go.walk { at = Down (first_leg d (trunk_path go.walk.call)) }))
          (sym (domain_here j h number place seat at numbered))

      gate_now : gate ≡ cond (go.walk.starts == 4) (Some number) w.gate
      gate_now = gate_is ∙ ap (λ (o : Option Walk). cond (option_map_or (λ (walk : Walk). walk.starts == 4) o false)
          (Some number) j.gate) go.is

      root_world : changed_world j place new gate ≡ shapes.entered w number go.walk
      root_world =
          world_put j h number place seat at numbered new low gate new_walk
          ∙ ap (λ g. record w { walks = insert w.walks number low; gate = g }) gate_now

      pub root_does : advance w (Descend number) ≡ (Stands root, changed_world j place new gate)
      root_does = go.step ∙ ap (λ v. (Stands root, v)) (sym root_world)

      pub root_sound : IsSound (changed_world j place new gate)
      root_sound = sound_after j (changed_world j place new gate) (Descend number) (Stands root) h root_does

      known_then : AreClients (changed_world j place new gate)
      known_then = are_clients (changed_world j place new gate) root_sound

      puts : (changed_world j place new gate).walks ≡ insert w.walks number low
      puts = ap (λ (v : World). v.walks) (world_put j h number place seat at numbered new low gate new_walk)

      pub root_lent : (node : Slot) → node ≡ record slot.node { mark = Some number }
          → record { inode = slot.inode; node = node }
          ≡ slot_of (record (book_of j) { world = changed_world j place new gate }) k
      root_lent node is =
          lent_after (book_of j) (changed_world j place new gate).walks gate k slot node lent
          (λ z. cc (sym go.here ∙ z))
          (is ∙ ap (λ m. record slot.node { mark = m })
          (sym (ap (mark_of (changed_world j place new gate)) go.here
          ∙ mark_put w (changed_world j place new gate) number low puts root known_then root_sound.apart refl)))

      none_marked : (p : Position) → is_above p ≡ true → (i : ℕ) → marks (record go.walk { at = p }) i ≡ false
      none_marked Above e i = refl
      none_marked (Down t) e i = absurd (cc e)
      none_marked (Split t x y) e i = absurd (cc e)

      one_mark : (i : ℕ) → i ≢ root → marks low i ≡ false
      one_mark i other = by (root == i) refl
        where
          by : (b : Bool) → (root == i) ≡ b → (b || false) ≡ false
          by true e = absurd (other (sym (eqb-true root i e)))
          by false e = refl

      pub root_spares : (b : Book) → b.world ≡ changed_world j place new gate → b.inodes ≡ j.table.inodes
          → Spares (book_of j) b (k ∷ [])
      root_spares b is inodes =
          spares_moved (book_of j) b number low gate (k ∷ []) (is
          ∙ world_put j h number place seat at numbered new low gate new_walk) inodes
          (known_here j h number place seat at numbered) (subst AreClients (sym is) known_then)
          (λ q out some.
          has_mark_of w (inode_in (book_of j) q) number go.walk (walk_here j h number place seat at numbered ∙ go.is)
          ∙ none_marked go.walk.at go.top (inode_in (book_of j) q)
          ∙ sym (one_mark (inode_in (book_of j) q) (λ e.
          out.0 (one_slot (book_of j) j.table.places h.table.placed q k (e ∙ sym go.here
          ∙ inode_is (book_of j) k slot lent) some))))
