-- What a commit does to the walk that ends.
use Rattle.std.specs.Prelude.{◌≡◌, ◌≢◌, ℕ, zero, suc, Bool, true, false, ◌==◌, List, Option, Some, None}
use Rattle.std.specs.Prelude.{option_map, option_and_then, slice_get, slice_set, refl}
use Rattle.std.specs.Ordering.{nat_cmp}
use Rattle.std.specs.Cmp.{nat_cmp_total}
use Rattle.std.specs.FinMap.{nat_cmp-IsAntisymmetric}
use Rattle.std.proofs.Common.{sym, ap, ◌∙◌}
use Rattle.std.proofs.lemmas.Bool.{eqb-true, eq-eqb}
use Rattle.ll_rights.specs.declared.errno.Errno.TheVariants.{HistoryFull}
use Rattle.ll_rights.specs.Map.{get, remove}
use Rattle.ll_rights.specs.MapCodes.{same_list_map}
use Rattle.ll_rights.proofs.Maps.{get-remove_other, same_map}
use Rattle.ll_seq.specs.declared.call.Call.{Call}
use Rattle.ll_seq.specs.declared.reply.Reply.{Reply}
use Rattle.ll_seq.specs.declared.reply.Reply.TheVariants.{Refused}
use Rattle.ll_laws.specs.Walk.{Walk, at_ends}
use Rattle.ll_laws.specs.World.{World, Replied, advance, is_full, may_commit, moved_by, reply_to, shown}
use Rattle.ll_laws.specs.World.{without_walk}
use Rattle.ll_laws.specs.declared.step.Step.TheVariants.{Commit}
use Rattle.ll_laws.proofs.Shapes.{with_entry, with_stale}
use Rattle.ll_laws.proofs.SoundSteps.{with_stale_none}
use Rattle.ll_laws.proofs.StepGrowth.{gone}
use Rattle.ll_journal.specs.declared.stage.Stage.{Stage}
use Rattle.ll_journal.specs.declared.seat.Seat.TheInside.{Inside}
use Rattle.ll_journal.specs.Book as book
use Rattle.ll_journal.specs.Kept.{seat_at, walks_from}
use Rattle.ll_journal.specs.Seated.{is_at_ends, position_at, seat_of}
use Rattle.ll_journal.proofs.Advances.{commit_full, commit_replies}
use Rattle.ll_node.proofs.SlotLists.{set_same, set_other}
use Rattle.ll_journal.proofs.Begun.{walk_at}

-- ---- whether its branches are at their ends

-- by the stage
pub at_ends_by : (seat : Inside) (call : Call) (now : Stage) → seat.call ≡ Some call → seat.stage ≡ now
    → is_at_ends (seat_of seat) ≡ at_ends call (position_at now seat call)
at_ends_by seat call now is e =
    ap (λ o. is_at_ends (record (seat_of seat) {
      walk = option_map (λ k. record {
        call = k;
        starts = seat.starts;
        stale = seat.is_stale;
        at = position_at seat.stage seat k;
      }) o;
    })) is
    ∙ ap (λ n. at_ends call (position_at n seat call)) e

-- ---- its walk is gone

-- a seat without a walk has none among the walks
pub walks_ended : (seats : List book.Seat) (number place : ℕ) (old seat : book.Seat) → number ≡ suc place
    → slice_get seats place ≡ Some old → seat.walk ≡ None
    → walks_from 1 (slice_set seats place seat) ≡ remove (walks_from 1 seats) number
walks_ended seats number place old seat numbered at none =
    same_list_map _ _ (same_map nat_cmp_total nat_cmp-IsAntisymmetric _ _ (λ q. walk_at (slice_set seats place seat) q
    ∙ by q (q == suc place) refl))
    ∙ ap (remove (walks_from 1 seats)) (sym numbered)
  where
    walk_in : Option book.Seat → Option Walk
    walk_in o = option_and_then (λ (s : book.Seat). s.walk) o

    other : (q : ℕ) → q ≢ suc place → walk_in (seat_at (slice_set seats place seat) q) ≡ walk_in (seat_at seats q)
    other zero n = refl
    other (suc k) n = ap walk_in (set_other seats place k seat (λ e. n (ap suc (sym e))))

    by : (q : ℕ) (b : Bool) → (q == suc place) ≡ b
        → walk_in (seat_at (slice_set seats place seat) q) ≡ get (remove (walks_from 1 seats) (suc place)) q
    by q true e =
        let here : q ≡ suc place = eqb-true q (suc place) e in
        ap (λ n. walk_in (seat_at (slice_set seats place seat) n)) here ∙ ap walk_in (set_same seats place old seat at)
        ∙ none
        ∙ sym (ap (get (remove (walks_from 1 seats) (suc place))) here ∙ gone (walks_from 1 seats) (suc place))
    by q false e =
        let away : q ≢ suc place = λ g. cc (sym e ∙ eq-eqb q (suc place) g) in
        other q away ∙ sym (get-remove_other nat_cmp_total nat_cmp-IsAntisymmetric (walks_from 1 seats) (suc place) q
        away ∙ walk_at seats q)

-- ---- what a commit comes to

module _ (w : World) (number : ℕ) (walk : Walk) (is : get w.walks number ≡ Some walk)
    (may : may_commit w number walk ≡ true) where
  pub commit_equation : is_full w ≡ false → (reply : Reply) → reply ≡ reply_to w number walk.call
      → advance w (Commit number) ≡ (
        Replied reply,
        with_stale (moved_by (shown w) walk.call reply)
            (with_entry (without_walk w number) number walk.call reply),
      )
  commit_equation room reply answer =
      commit_replies w number walk is may room
      ∙ ap (λ (r : Reply). (
        Replied r,
        with_stale (moved_by (shown w) walk.call r) (with_entry (without_walk w number) number walk.call r),
      ))
      (sym answer)

  pub commit_gives_up : is_full w ≡ true
      → advance w (Commit number) ≡ (Replied (Refused HistoryFull), without_walk w number)
  commit_gives_up full = commit_full w number walk is may full
      ∙ ap (λ (v : World). (Replied (Refused HistoryFull), v)) (with_stale_none (without_walk w number))
