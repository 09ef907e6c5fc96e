-- A walk leaves what is common to both paths.
use Rattle.std.specs.Prelude.{◌≡◌, ℕ, suc, Bool, true, false, cond, not, ◌&&◌, [], Option, Some, None, is_some}
use Rattle.std.specs.Prelude.{option_map, option_and_then, unwrap_or, slice_get, refl}
use Rattle.std.specs.Option.{option_map_or}
use Rattle.std.proofs.Common.{sym, subst, ap, ◌∙◌}
use Rattle.ll_laws.specs.Walk.{Walk, Position, forked}
use Rattle.ll_laws.specs.World as world
use Rattle.ll_laws.specs.World.{World, Outcome, Forked, advance, fork, with_walk}
use Rattle.ll_laws.specs.declared.step.Step.TheVariants.{Fork}
use Rattle.ll_laws.specs.Sound.{IsSound}
use Rattle.ll_journal.specs.declared.journal.Journal.TheInside.{Inside}
use Rattle.ll_journal.specs.Book.{Seat, Book, Spares, inode_in}
use Rattle.ll_journal.specs.Kept.{IsKept, world_of, book_of}
use Rattle.ll_journal.specs.Checks.{goes_on}
use Rattle.ll_journal.specs.Seated.{split}
use Rattle.ll_journal.proofs.MarkOf.{AreClients, are_clients, has_mark_of, fork_leaves}
use Rattle.ll_journal.proofs.LentAfter.{spares_moved}
use Rattle.ll_journal.proofs.Starts.{changed_world, sound_after}
use Rattle.ll_journal.proofs.RootDescents.{walk_here, known_here, world_put}

abbrev pub at_fork : Option Walk → Bool
at_fork o = option_map_or (λ (walk : Walk). is_some (forked walk.call walk.at)) o false

-- a walk at its fork
pub record Forks (j : Inside) (number : ℕ) (seat : Seat) : Type 0 where
  pub walk : Walk
  pub is : seat.walk ≡ Some walk
  pub next : Position
  pub forked_is : forked walk.call walk.at ≡ Some next
  pub step : advance (world_of j) (Fork number) ≡ (Forked, with_walk (world_of j) number (record walk { at = next }))

module _ (j : Inside) (h : IsKept j) (number place : ℕ) (seat : Seat) (at : slice_get j.seats.items place ≡ Some seat)
    (numbered : number ≡ suc place) where
  abbrev w : World
  w = world_of j

  abbrev answer : Option (Outcome × World) → Outcome × World
  answer o = unwrap_or o (world.NotNow, w)

  abbrev split_at : Walk → Option Position → Option (Outcome × World)
  split_at walk o = option_map (λ p. (Forked, with_walk w number (record walk { at = p }))) o

  -- what is found
  abbrev Found : Bool → Type 0
  Found true = Forks j number seat
  Found false = advance w (Fork number) ≡ (world.NotNow, w)

  found : (o : Option Walk) → seat.walk ≡ o → advance w (Fork number) ≡ answer (option_and_then (fork w number) o)
  found o e = ap (λ (v : Option Walk). answer (option_and_then (fork w number) v))
      (walk_here j h number place seat at numbered ∙ e)

  pub forks : Found (goes_on seat && at_fork seat.walk)
  forks = by seat.walk refl
    where
      by : (o : Option Walk) → seat.walk ≡ o → Found (goes_on (record seat { walk = o }) && at_fork o)
      by None is = found None is
      by (Some walk) is =
          elim walk.stale as (λ s. walk.stale ≡ s → Found (not s && is_some (forked walk.call walk.at))) [
            | true ↦ λ e. found (Some walk) is
                ∙ ap (λ b. answer (cond b None (split_at walk (forked walk.call walk.at)))) e
            | false ↦ λ e. elim (forked walk.call walk.at) as (λ o. forked walk.call walk.at ≡ o → Found (is_some o)) [
              | None ↦ λ f. found (Some walk) is
                  ∙ ap (λ b. answer (cond b None (split_at walk (forked walk.call walk.at)))) e
                  ∙ ap (λ o. answer (split_at walk o)) f
              | Some next ↦ λ f. record {
                walk = walk;
                is = is;
                next = next;
                forked_is = f;
                step = found (Some walk) is
                    ∙ ap (λ b. answer (cond b None (split_at walk (forked walk.call walk.at)))) e
                    ∙ ap (λ o. answer (split_at walk o)) f;
              }
            ] refl
          ] refl

  pub fork_not_now : (b : Bool) → b ≡ (goes_on seat && at_fork seat.walk) → b ≡ false
      → advance w (Fork number) ≡ (world.NotNow, w)
  fork_not_now b is e = subst Found (sym is ∙ e) forks

  pub fork_goes : (b : Bool) → b ≡ (goes_on seat && at_fork seat.walk) → b ≡ true → Forks j number seat
  fork_goes b is e = subst Found (sym is ∙ e) forks

  module _ (go : Forks j number seat) (new : Seat) (new_is : new ≡ record seat { walk = option_map split seat.walk })
    where
      abbrev apart : Walk
      apart = record go.walk { at = go.next }

      new_walk : new.walk ≡ Some apart
      new_walk =
          ap (λ (s : Seat). s.walk) new_is ∙ ap (option_map split) go.is
          ∙ ap (λ (o : Option Position). Some (record go.walk { at = unwrap_or o go.walk.at })) go.forked_is

      pub fork_does : advance w (Fork number) ≡ (Forked, changed_world j place new j.gate)
      fork_does = go.step ∙ ap (λ v. (Forked, v))
          (sym (world_put j h number place seat at numbered new apart j.gate new_walk))

      pub fork_sound : IsSound (changed_world j place new j.gate)
      fork_sound = sound_after j (changed_world j place new j.gate) (Fork number) Forked h fork_does

      pub fork_spares : (b : Book) → b.world ≡ changed_world j place new j.gate → b.inodes ≡ j.table.inodes
          → Spares (book_of j) b []
      fork_spares b is inodes =
          spares_moved (book_of j) b number apart j.gate [] (is
          ∙ world_put j h number place seat at numbered new apart j.gate new_walk) inodes
          (known_here j h number place seat at numbered)
          (subst AreClients (sym is) (are_clients (changed_world j place new j.gate) fork_sound))
          (λ q out some.
          has_mark_of w (inode_in (book_of j) q) number go.walk (walk_here j h number place seat at numbered ∙ go.is)
          ∙ sym (fork_leaves go.walk.call go.walk.at go.next (inode_in (book_of j) q) go.forked_is))
