-- A walk that ends: what the journal keeps, and every slot's account.
use Rattle.std.specs.Prelude.{◌≡◌, ◌≢◌, ◌<◌, ℕ, suc, length, unwrap_or, true, false, cond, ◌||◌, ◌==◌, List, [], ◌∷◌}
use Rattle.std.specs.Prelude.{map, Option, Some, None, option_and_then, slice_get, refl}
use Rattle.std.specs.Ordering.{nat_cmp}
use Rattle.std.proofs.Common.{sym, subst, ap, ◌∙◌}
use Rattle.std.proofs.lemmas.Bool.{eqb-true, eq-eqb}
use Rattle.ll_rights.specs.Map.{Map, get, remove}
use Rattle.ll_node.specs.Lent.{vacant, unmarked}
use Rattle.ll_node.specs.InodeTable.{NotIn}
use Rattle.ll_laws.specs.Walk.{Walk, is_in, marks}
use Rattle.ll_laws.specs.World.{World, domain_of, without_walk, released}
use Rattle.ll_seq.specs.declared.call.Call.TheVariants.{Spawn}
use Rattle.ll_seq.specs.declared.client.ClientRecord.{ClientRecord}
use Rattle.ll_seq.specs.State.{new_client}
use Rattle.ll_journal.proofs.OwnSteps.{there}
use Rattle.ll_journal.proofs.ClientTables.{many_spares}
use Rattle.ll_laws.specs.Sound.{IsSound}
use Rattle.ll_laws.proofs.SoundSteps.{sound_ended, with_stale_none}
use Rattle.ll_journal.specs.declared.journal.Journal.TheInside.{Inside}
use Rattle.ll_journal.specs.Book.{Seat, Book, Spares, inode_in, slot_of, held_of, mark_of, has_mark}
use Rattle.ll_journal.specs.WalkEnds.{is_lent}
use Rattle.ll_journal.specs.Kept.{IsKept, world_of, book_of}
use Rattle.ll_journal.proofs.Ended.{walks_ended}
use Rattle.ll_journal.proofs.RootDescents.{walk_here}
use Rattle.ll_journal.proofs.LentAfter.{one_slot}
use Rattle.ll_journal.proofs.LentSlots.{slot_kept}
use Rattle.ll_journal.proofs.MarkOf.{Leaves, are_clients, has_mark_of, leaves_removed, mark_found, mark_gone, mark_is}
use Rattle.ll_journal.proofs.MarkOf.{mark_left}
use Rattle.ll_journal.proofs.Starts.{changed_world}

-- the marks of others stay
abbrev pub others : ℕ → Option ℕ → Option ℕ
others number mark = option_and_then (λ holder. cond (holder == number) None (Some holder)) mark

not_ours : (number : ℕ) (mark : Option ℕ) → mark ≢ Some number → others number mark ≡ mark
not_ours number None n = refl
not_ours number (Some holder) n =
    elim (holder == number) as (λ b. (holder == number) ≡ b → cond b None (Some holder) ≡ Some holder) [
      | true ↦ λ e. absurd (n (ap (λ i. Some i) (eqb-true holder number e)))
      | false ↦ λ e. refl
    ] refl

module _ (w : World) (number : ℕ) (walk : Walk) (sound : IsSound w) (is : get w.walks number ≡ Some walk) where
  abbrev pub idle : World
  idle = without_walk w number

  pub idle_sound : IsSound idle
  idle_sound = sound_ended w number walk sound is

  leaves : Leaves w idle number
  leaves = leaves_removed w idle number [] (ap (λ (v : World). v.walks) (sym (with_stale_none idle)))

  had : (i : ℕ) → has_mark w i number ≡ marks walk i
  had i = has_mark_of w i number walk is

  pub mark_then : (i : ℕ) → mark_of idle i ≡ others number (mark_of w i)
  mark_then i = elim (has_mark w i number) as (λ b. has_mark w i number ≡ b
      → mark_of idle i ≡ others number (mark_of w i)) [
        | true ↦ λ e.
            mark_gone w idle number leaves i sound.apart e
            ∙ sym (ap (others number) (mark_is w i (are_clients w sound) sound.apart number e)
            ∙ ap (λ b. cond b None (Some number)) (eq-eqb number number refl))
        | false ↦ λ e.
            mark_left w idle number leaves i (are_clients w sound) (are_clients idle idle_sound) e
            ∙ sym (not_ours number (mark_of w i) (λ f. cc (sym e ∙ mark_found w i number f)))
      ] refl

  -- what isn't marked by it stays
  pub held_stays : (i : ℕ) → marks walk i ≡ false → held_of idle i ≡ held_of w i
  held_stays i free =
      ap (λ m. record (held_of w i) { node = record (held_of w i).node { mark = m } })
      (mark_left w idle number leaves i (are_clients w sound) (are_clients idle idle_sound) (had i ∙ free))

module _ (j : Inside) (h : IsKept j) (number place : ℕ) (seat : Seat) (at : slice_get j.seats.items place ≡ Some seat)
    (numbered : number ≡ suc place) (walk : Walk) (is : get (world_of j).walks number ≡ Some walk) where
  abbrev w : World
  w = world_of j

  pub seat_walks : seat.walk ≡ Some walk
  seat_walks = sym (walk_here j h number place seat at numbered) ∙ is

  module _ (new : Seat) (new_is : new ≡ record seat { walk = None }) (gate : Option ℕ)
      (gate_is : gate ≡ released j.gate number) where
    pub ended_world : changed_world j place new gate ≡ without_walk w number
    ended_world =
        ap (λ (m : Map nat_cmp Walk). record w { walks = m; gate = gate })
        (walks_ended j.seats.items number place seat new numbered at (ap (λ (s : Seat). s.walk) new_is))
        ∙ ap (λ (g : Option ℕ). record w { walks = remove w.walks number; gate = g }) gate_is

    pub ended_sound : IsSound (changed_world j place new gate)
    ended_sound = subst IsSound (sym ended_world) (idle_sound w number walk h.sound is)

    abbrev pub ended_book : Book
    ended_book = record (book_of j) { world = changed_world j place new gate }

    -- in each slot
    pub ended_slot : (k : ℕ) → slot_of ended_book k ≡ unmarked number (slot_of (book_of j) k)
    ended_slot k =
        ap (λ (v : World). slot_of (record (book_of j) { world = v }) k) ended_world
        ∙ elim (inode_in (book_of j) k == 0) as
        (λ t. cond t vacant (held_of (without_walk w number) (inode_in (book_of j) k))
        ≡ unmarked number (cond t vacant (held_of w (inode_in (book_of j) k)))) [
          | true ↦ refl
          | false ↦ ap (λ m. record (held_of w (inode_in (book_of j) k))
              { node = record (held_of w (inode_in (book_of j) k)).node { mark = m } })
              (mark_then w number walk h.sound is (inode_in (book_of j) k))
        ]

    pub ended_slots : (slots : List ℕ)
        → map (unmarked number) (map (slot_of (book_of j)) slots) ≡ map (slot_of ended_book) slots
    ended_slots [] = refl
    ended_slots (k ∷ slots) = λ i. sym (ended_slot k) i ∷ ended_slots slots i

    not_among : (ks : List ℕ) (q : ℕ) → NotIn q ks → inode_in (book_of j) q ≢ 0
        → is_in (map (inode_in (book_of j)) ks) (inode_in (book_of j) q) ≡ true → ⊥
    not_among [] q out some e = cc e
    not_among (k ∷ ks) q out some e =
        elim (inode_in (book_of j) k == inode_in (book_of j) q) as
        (λ b. (inode_in (book_of j) k == inode_in (book_of j) q) ≡ b
        → (b || is_in (map (inode_in (book_of j)) ks) (inode_in (book_of j) q)) ≡ true → ⊥) [
          | true ↦ λ t f. out.0 (one_slot (book_of j) j.table.places h.table.placed q k
              (sym (eqb-true (inode_in (book_of j) k) (inode_in (book_of j) q) t)) some)
          | false ↦ λ t f. not_among ks q out.1 some f
        ] refl e

    not_marked : (i : ℕ) → (marks walk i ≡ true → ⊥) → marks walk i ≡ false
    not_marked i n = elim (marks walk i) as (λ b. (b ≡ true → ⊥) → b ≡ false)
        [ true ↦ λ f. absurd (f refl) | false ↦ λ f. refl ] n

    pub ended_spares : (slots : List ℕ)
        → ((inode : ℕ) → marks walk inode ≡ true → is_lent (book_of j) slots inode ≡ true)
        → Spares (book_of j) ended_book slots
    ended_spares slots all = record {
      limit = refl;
      size = refl;
      slots = λ q out.
          ap (λ (v : World). slot_of (record (book_of j) { world = v }) q) ended_world
          ∙ slot_kept (book_of j) (record (book_of j) { world = without_walk w number }) q refl
          (λ some. held_stays w number walk h.sound is (inode_in (book_of j) q)
          (not_marked (inode_in (book_of j) q) (λ m. not_among slots q out some (all (inode_in (book_of j) q) m))));
    }

-- ---- as the code finds it

pub place_within : (j : Inside) (b : Book) → book_of j ≡ b → (place : ℕ) → place < length b.spares
    → place < length j.seats.items
place_within j b is place lt =
    subst (λ n. place < n) (ap (λ (x : Book). length x.spares) (sym is) ∙ many_spares j.seats.items) lt

pub walk_of : (j : Inside) (b : Book) → book_of j ≡ b → (number : ℕ) → (walk : Walk)
    × (get b.world.walks number ≡ Some walk) → (walk : Walk) × (get (world_of j).walks number ≡ Some walk)
walk_of j b is number walk = (walk.0, ap (λ (x : Book). get x.world.walks number) is ∙ walk.1)

-- the client's layers
pub domain_is : (j : Inside) → IsKept j → (number place : ℕ) (seat : Seat) → slice_get j.seats.items place ≡ Some seat
    → number ≡ suc place → domain_of (world_of j) number ≡ seat.client.domain
domain_is j h number place seat at numbered =
    ap (λ (o : Option ClientRecord). (unwrap_or o new_client).domain) (there j h number Spawn place seat at numbered)

-- the accounts don't depend on whose slots are kept
pub spares_same : {b v : Book} {ks slots : List ℕ} → Spares b v slots → Spares b (record v { spares = ks }) slots
spares_same h = record { limit = h.limit; size = h.size; slots = h.slots }
