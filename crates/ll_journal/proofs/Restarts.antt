-- A stale walk starts again.
use Rattle.std.specs.Prelude.{◌≡◌, ◌≢◌, ℕ, suc, ◌+◌, ◌≤◌, Bool, true, false, cond, not, ◌||◌, ◌==◌, List, [], ◌∷◌, map}
use Rattle.std.specs.Prelude.{Option, Some, None, option_map, option_and_then, unwrap_or, slice_get, refl}
use Rattle.std.specs.Option.{option_map_or}
use Rattle.std.proofs.Common.{sym, subst, ap, ◌∙◌}
use Rattle.std.proofs.lemmas.Bool.{eqb-true, eq-eqb}
use Rattle.ll_rights.specs.Map.{insert}
use Rattle.ll_laws.specs.Walk.{Walk, Above, is_in, marks}
use Rattle.ll_laws.specs.World as world
use Rattle.ll_laws.specs.World.{World, Outcome, Restarted, advance, restart}
use Rattle.ll_laws.specs.declared.step.Step.TheVariants.{Restart}
use Rattle.ll_laws.specs.Sound.{IsSound}
use Rattle.ll_laws.proofs.Shapes.{restarted}
use Rattle.ll_node.specs.declared.held.Held.{Held}
use Rattle.ll_journal.specs.declared.journal.Journal.TheInside.{Inside}
use Rattle.ll_journal.specs.declared.check_step.StepCheck.{StepCheck}
use Rattle.ll_journal.specs.declared.check_step.StepCheck.TheVariants.{NotNow, Astray, Go}
use Rattle.ll_journal.specs.Book.{Seat, Book, Spares, inode_in, slot_of, held_of, has_mark, mark_of}
use Rattle.ll_node.specs.InodeTable.{NotIn}
use Rattle.ll_node.specs.Lent.{vacant}
use Rattle.ll_journal.specs.Kept.{IsKept, world_of, book_of}
use Rattle.ll_journal.specs.Checks.{is_all_lent, check_restart}
use Rattle.ll_journal.specs.WalkEnds.{is_lent}
use Rattle.ll_journal.specs.Seated.{again}
use Rattle.ll_journal.specs.Steps.{IsAstrayAt}
use Rattle.ll_node.specs.Lent.{unmarked}
use Rattle.ll_journal.proofs.MarkOf.{AreClients, are_clients, has_mark_of, mark_is, mark_found, mark_put_gone}
use Rattle.ll_journal.proofs.MarkOf.{mark_put_same}
use Rattle.ll_journal.proofs.LentAfter.{spares_moved, one_slot}
use Rattle.ll_journal.proofs.LentMarks.{all_marked, some_unlent}
use Rattle.ll_journal.proofs.Starts.{changed_world, sound_after}
use Rattle.ll_journal.proofs.RootDescents.{walk_here, known_here, world_put}

-- a stale walk that stands in the directories of these slots
pub record StartsAgain (j : Inside) (number : ℕ) (seat : Seat) (slots : List ℕ) : Type 0 where
  pub walk : Walk
  pub is : seat.walk ≡ Some walk
  pub among : (i : ℕ) → marks walk i ≡ true → is_lent (book_of j) slots i ≡ true
  pub step : advance (world_of j) (Restart number) ≡ (Restarted, restarted (world_of j) number walk)

module _ (j : Inside) (h : IsKept j) (number place : ℕ) (seat : Seat) (at : slice_get j.seats.items place ≡ Some seat)
    (numbered : number ≡ suc place)
    (slots : List ℕ) (lent : List Held) (told : lent ≡ map (slot_of (book_of j)) slots) where
  abbrev w : World
  w = world_of j

  abbrev answer : Option (Outcome × World) → Outcome × World
  answer o = unwrap_or o (world.NotNow, w)

  -- what is found
  abbrev Seen : StepCheck → Type 0
  Seen NotNow = advance w (Restart number) ≡ (world.NotNow, w)
  Seen Astray = IsAstrayAt (book_of j) number slots
  Seen Go = StartsAgain j number seat slots

  found : (o : Option Walk) → seat.walk ≡ o → advance w (Restart number) ≡ answer (option_and_then (restart w number) o)
  found o e = ap (λ (v : Option Walk). answer (option_and_then (restart w number) v))
      (walk_here j h number place seat at numbered ∙ e)

  seen_walk : (walk : Walk) → seat.walk ≡ Some walk
      → Seen (cond (not walk.stale) NotNow (cond (is_all_lent lent seat) Go Astray))
  seen_walk walk is = elim walk.stale as (λ t. walk.stale ≡ t
      → Seen (cond (not t) NotNow (cond (is_all_lent lent seat) Go Astray))) [
        | true ↦ λ e. elim (is_all_lent lent seat) as (λ t. is_all_lent lent seat ≡ t → Seen (cond t Go Astray)) [
          | true ↦ λ f. record {
            walk = walk;
            is = is;
            among = all_marked j h number place seat at numbered slots lent told walk is f;
            step = stepped true e;
          }
          | false ↦ λ f. (
            walk,
            walk_here j h number place seat at numbered
                ∙ is,
            e,
            some_unlent j h number place seat at numbered slots lent told walk is f,
          )
        ] refl
        | false ↦ stepped false
      ] refl
    where
      stepped : (t : Bool) → walk.stale ≡ t
          → advance w (Restart number) ≡ answer (cond t (Some (Restarted, restarted w number walk)) None)
      stepped t e = found (Some walk) is ∙ ap (λ t. answer (cond t (Some (Restarted, restarted w number walk)) None)) e

  seen : Seen (check_restart lent seat)
  seen = by seat.walk refl
    where
      stale_as : (o : Option Walk) → seat.walk ≡ o
          → Seen (cond (not (option_map_or (λ (v : Walk). v.stale) o false)) NotNow
          (cond (is_all_lent lent seat) Go Astray)) → Seen (check_restart lent seat)
      stale_as o e s = subst (λ (o : Option Walk). Seen
          (cond (not (option_map_or (λ (v : Walk). v.stale) o false)) NotNow (cond (is_all_lent lent seat) Go Astray)))
          (sym e) s

      by : (o : Option Walk) → seat.walk ≡ o → Seen (check_restart lent seat)
      by None e = stale_as None e (found None e)
      by (Some walk) e = stale_as (Some walk) e (seen_walk walk e)

  pub again_not_now : check_restart lent seat ≡ NotNow → advance w (Restart number) ≡ (world.NotNow, w)
  again_not_now e = subst Seen e seen

  pub again_astray : check_restart lent seat ≡ Astray → IsAstrayAt (book_of j) number slots
  again_astray e = subst Seen e seen

  pub again_goes : check_restart lent seat ≡ Go → StartsAgain j number seat slots
  again_goes e = subst Seen e seen

  -- ---- when it starts

  module _ (go : StartsAgain j number seat slots) where
    pub few_starts : (walk : Walk) × (seat.walk ≡ Some walk) × (walk.starts ≤ 4)
    few_starts = (go.walk, go.is, h.sound.few number go.walk (walk_here j h number place seat at numbered ∙ go.is))

    module _ (new : Seat) (new_is : new ≡ record seat { walk = option_map again seat.walk }) where
      abbrev top : Walk
      top = record go.walk { starts = go.walk.starts + 1; stale = false; at = Above }

      new_walk : new.walk ≡ Some top
      new_walk = ap (λ (v : Seat). v.walk) new_is ∙ ap (option_map again) go.is

      abbrev after : World
      after = changed_world j place new j.gate

      put : after ≡ record w { walks = insert w.walks number top; gate = j.gate }
      put = world_put j h number place seat at numbered new top j.gate new_walk

      puts : after.walks ≡ insert w.walks number top
      puts = ap (λ (v : World). v.walks) put

      pub again_does : advance w (Restart number) ≡ (Restarted, after)
      again_does = go.step ∙ ap (λ v. (Restarted, v)) (sym put)

      pub again_sound : IsSound after
      again_sound = sound_after j after (Restart number) Restarted h again_does

      known_then : AreClients after
      known_then = are_clients after again_sound

      known : AreClients w
      known = known_here j h number place seat at numbered

      had : (i : ℕ) → has_mark w i number ≡ marks go.walk i
      had i = has_mark_of w i number go.walk (walk_here j h number place seat at numbered ∙ go.is)

      abbrev others : Option ℕ → Option ℕ
      others mark = option_and_then (λ holder. cond (holder == number) None (Some holder)) mark

      -- a mark that isn't the client's stays
      not_ours : (mark : Option ℕ) → mark ≢ Some number → others mark ≡ mark
      not_ours None n = refl
      not_ours (Some holder) n = elim (holder == number) as (λ b. (holder == number) ≡ b
          → cond b None (Some holder) ≡ Some holder) [
            | true ↦ λ e. absurd (n (ap (λ i. Some i) (eqb-true holder number e)))
            | false ↦ λ e. refl
          ] refl

      mark_then : (i : ℕ) → mark_of after i ≡ others (mark_of w i)
      mark_then i = elim (has_mark w i number) as (λ b. has_mark w i number ≡ b
          → mark_of after i ≡ others (mark_of w i)) [
            | true ↦ λ e.
                mark_put_gone w after number top puts i h.sound.apart e refl
                ∙ sym (ap others (mark_is w i known h.sound.apart number e)
                ∙ ap (λ b. cond b None (Some number)) (eq-eqb number number refl))
            | false ↦ λ e.
                mark_put_same w after number top puts i known known_then e
                ∙ sym (not_ours (mark_of w i) (λ f. cc (sym e ∙ mark_found w i number f)))
          ] refl

      abbrev again_book : Book
      again_book = record (book_of j) { world = after }

      again_slot : (k : ℕ) → slot_of again_book k ≡ unmarked number (slot_of (book_of j) k)
      again_slot k =
          elim (inode_in (book_of j) k == 0) as
          (λ t. cond t vacant (held_of after (inode_in (book_of j) k))
          ≡ unmarked number (cond t vacant (held_of w (inode_in (book_of j) k)))) [
            | true ↦ refl
            | false ↦ ap (λ m. record (held_of w (inode_in (book_of j) k))
                { node = record (held_of w (inode_in (book_of j) k)).node { mark = m } })
                (mark_then (inode_in (book_of j) k))
          ]

      -- the marks go
      pub again_lent : (b : Book) → b.world ≡ after → b.inodes ≡ j.table.inodes
          → map (unmarked number) lent ≡ map (slot_of b) slots
      again_lent b is same = ap (map (unmarked number)) told ∙ each slots
        where
          here : (k : ℕ) → slot_of again_book k ≡ slot_of b k
          here k = sym (λ i. slot_of (record b { world = is i; inodes = same i }) k)

          each : (ks : List ℕ) → map (unmarked number) (map (slot_of (book_of j)) ks) ≡ map (slot_of b) ks
          each [] = refl
          each (k ∷ ks) = let one = sym (again_slot k) ∙ here k in let rest = each ks in λ i. one i ∷ rest i

      not_among : (ks : List ℕ) (q : ℕ) → NotIn q ks → inode_in (book_of j) q ≢ 0
          → is_in (map (inode_in (book_of j)) ks) (inode_in (book_of j) q) ≡ true → ⊥
      not_among [] q out some e = cc e
      not_among (k ∷ ks) q out some e =
          elim (inode_in (book_of j) k == inode_in (book_of j) q) as
          (λ b. (inode_in (book_of j) k == inode_in (book_of j) q) ≡ b
          → (b || is_in (map (inode_in (book_of j)) ks) (inode_in (book_of j) q)) ≡ true → ⊥) [
            | true ↦ λ t f. out.0 (one_slot (book_of j) j.table.places h.table.placed q k
                (sym (eqb-true (inode_in (book_of j) k) (inode_in (book_of j) q) t)) some)
            | false ↦ λ t f. not_among ks q out.1 some f
          ] refl e

      none_marked : (i : ℕ) → (marks go.walk i ≡ true → ⊥) → marks go.walk i ≡ false
      none_marked i n = elim (marks go.walk i) as (λ b. marks go.walk i ≡ b → b ≡ false)
          [ true ↦ λ e. absurd (n e) | false ↦ λ e. refl ] refl

      pub again_spares : (b : Book) → b.world ≡ after → b.inodes ≡ j.table.inodes → Spares (book_of j) b slots
      again_spares b is same =
          spares_moved (book_of j) b number top j.gate slots (is ∙ put) same known
          (subst AreClients (sym is) known_then)
          (λ q out some. had (inode_in (book_of j) q) ∙ none_marked (inode_in (book_of j) q) (λ m.
          not_among slots q out some (go.among (inode_in (book_of j) q) m)))
