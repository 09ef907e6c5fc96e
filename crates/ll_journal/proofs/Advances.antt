-- What each step comes to, by what is found where the walk stands.
use Rattle.std.specs.Prelude.{◌≡◌, ℕ, Bool, true, false, cond, not, ◌&&◌, ◌||◌, [], Option, Some, None, unwrap_or}
use Rattle.std.specs.Prelude.{option_and_then, refl}
use Rattle.std.specs.Option.{option_map_or}
use Rattle.std.specs.List.{list_any}
use Rattle.std.proofs.Common.{ap, ◌∙◌}
use Rattle.ll_rights.specs.declared.errno.Errno.TheVariants.{HistoryFull}
use Rattle.ll_rights.specs.Map.{get}
use Rattle.ll_seq.specs.declared.call.Call.{Call}
use Rattle.ll_seq.specs.declared.call.Call.TheVariants.{Connect}
use Rattle.ll_seq.specs.declared.reply.Reply.{Reply}
use Rattle.ll_seq.specs.declared.reply.Reply.TheVariants.{Done, Refused}
use Rattle.ll_laws.specs.Walk.{Walk, turn, further, at_ends, is_above}
use Rattle.ll_laws.specs.World.{World, Outcome, NotNow, Replied, Joined, advance, shown, domain_of, next_number}
use Rattle.ll_laws.specs.World.{reply_to, without_walk, is_full, is_idle, is_marked_by_other, last_nodes, may_commit}
use Rattle.ll_laws.specs.World.{enter, stand, descend, commit, joined, direct, moved_by}
use Rattle.ll_laws.specs.declared.step.Step.TheVariants.{Join, Descend, Commit}
use Rattle.ll_laws.proofs.Shapes.{committed, leg_is_blocked, replied, walking, with_entry, with_stale}
use Rattle.ll_laws.proofs.Turns.{ended}

-- ---- a client without a walk

module _ (w : World) (number : ℕ) (none : get w.walks number ≡ None) where
  pub descend_none : advance w (Descend number) ≡ (NotNow, w)
  descend_none = ap (λ o. unwrap_or (option_and_then (descend w number) o) (NotNow, w)) none

  pub commit_none : advance w (Commit number) ≡ (NotNow, w)
  commit_none = ap (λ o. unwrap_or (option_and_then (commit w number) o) (NotNow, w)) none

module _ (w : World) (number : ℕ) (walk : Walk) (is : get w.walks number ≡ Some walk) where
  abbrev done_or_not : Option (Outcome × World) → Outcome × World
  done_or_not o = unwrap_or o (NotNow, w)

  made : (f : World → ℕ → Walk → Option (Outcome × World))
      → done_or_not (walking w number f) ≡ done_or_not (f w number walk)
  made f = ap (λ o. done_or_not (option_and_then (f w number) o)) is

  -- ---- a descent

  abbrev lower : Option (Outcome × World)
  lower = option_and_then (stand w number walk)
      (option_and_then (further (shown w) (domain_of w number)) (turn walk.at))

  pub descend_stale : walk.stale ≡ true → advance w (Descend number) ≡ (NotNow, w)
  descend_stale e = made descend
      ∙ ap (λ b. done_or_not (cond b None (cond (is_above walk.at) (enter w number walk) lower))) e

  -- ---- a commit

  pub commit_not_now : may_commit w number walk ≡ false → advance w (Commit number) ≡ (NotNow, w)
  commit_not_now e = made commit ∙ ap (λ b. done_or_not (cond b (Some (committed w number walk)) None)) e

  module _ (may : may_commit w number walk ≡ true) where
    abbrev told : Reply × World → Outcome × World
    told r = (Replied r.0, with_stale (moved_by (shown w) walk.call r.0) r.1)

    commits : advance w (Commit number) ≡ committed w number walk
    commits = made commit ∙ ap (λ b. done_or_not (cond b (Some (committed w number walk)) None)) may

    pub commit_full : is_full w ≡ true
        → advance w (Commit number) ≡ (Replied (Refused HistoryFull), with_stale [] (without_walk w number))
    commit_full full = commits ∙ ap
        (λ b. told (cond b (Refused HistoryFull, without_walk w number) (
          reply_to w number walk.call,
          with_entry (without_walk w number) number walk.call (reply_to w number walk.call),
        ))) full

    pub commit_replies : is_full w ≡ false
        → advance w (Commit number) ≡
        (Replied (reply_to w number walk.call), ended w number walk (reply_to w number walk.call))
    commit_replies room = commits
        ∙ ap (λ b. told (cond b (Refused HistoryFull, without_walk w number) (
          reply_to w number walk.call,
          with_entry (without_walk w number) number walk.call (reply_to w number walk.call),
        ))) room

  -- the leg in turn can't go on
  pub may_commit_blocked : walk.stale ≡ false → option_map_or (leg_is_blocked (shown w)) (turn walk.at) false ≡ true
      → may_commit w number walk ≡ true
  may_commit_blocked fresh blocked =
      λ i. not (fresh i) && (blocked i
      || (at_ends walk.call walk.at && not (list_any (is_marked_by_other w number) (last_nodes (shown w) walk.call))))

  -- each branch is at its end, and nobody else stands in a last node
  pub may_commit_at_ends : walk.stale ≡ false → at_ends walk.call walk.at ≡ true
      → list_any (is_marked_by_other w number) (last_nodes (shown w) walk.call) ≡ false
      → may_commit w number walk ≡ true
  may_commit_at_ends fresh at free = by (option_map_or (leg_is_blocked (shown w)) (turn walk.at) false) ∙ refl
    where
      by : (b : Bool) → (not walk.stale
          && (b || (at_ends walk.call walk.at
          && not (list_any (is_marked_by_other w number) (last_nodes (shown w) walk.call))))) ≡ true
      by true = ap (λ t. not t && true) fresh
      by false = λ i. not (fresh i) && (at i && not (free i))

  pub may_commit_stale : walk.stale ≡ true → may_commit w number walk ≡ false
  may_commit_stale stale = ap (λ t. not t
      && (option_map_or (leg_is_blocked (shown w)) (turn walk.at) false
      || (at_ends walk.call walk.at && not (list_any (is_marked_by_other w number) (last_nodes (shown w) walk.call)))))
      stale

  pub may_commit_on_the_way : option_map_or (leg_is_blocked (shown w)) (turn walk.at) false ≡ false
      → at_ends walk.call walk.at ≡ false → may_commit w number walk ≡ false
  may_commit_on_the_way free at =
      (λ i. not walk.stale && (free i
      || (at i && not (list_any (is_marked_by_other w number) (last_nodes (shown w) walk.call)))))
      ∙ and_false (not walk.stale)
    where
      and_false : (b : Bool) → (b && false) ≡ false
      and_false true = refl
      and_false false = refl

  pub may_commit_marked : option_map_or (leg_is_blocked (shown w)) (turn walk.at) false ≡ false
      → list_any (is_marked_by_other w number) (last_nodes (shown w) walk.call) ≡ true
      → may_commit w number walk ≡ false
  may_commit_marked free marked =
      (λ i. not walk.stale && (free i || (at_ends walk.call walk.at && not (marked i))))
      ∙ neither (not walk.stale) (at_ends walk.call walk.at)
    where
      neither : (a b : Bool) → (a && (b && false)) ≡ false
      neither true true = refl
      neither true false = refl
      neither false b = refl

-- ---- a call without a walk

abbrev told_plainly : Reply × World → Outcome × World
told_plainly r = (Replied r.0, r.1)

module _ (w : World) (number : ℕ) (allowed : Bool) (call : Call) where
  pub direct_not_now : (is_idle w number && allowed) ≡ false
      → unwrap_or (direct w number allowed call) (NotNow, w) ≡ (NotNow, w)
  direct_not_now e = ap (λ b. unwrap_or (cond b (Some (replied w number call)) None) (NotNow, w)) e

  pub direct_full : (is_idle w number && allowed) ≡ true → is_full w ≡ true
      → unwrap_or (direct w number allowed call) (NotNow, w) ≡ (Replied (Refused HistoryFull), w)
  direct_full e full = ap (λ b. unwrap_or (cond b (Some (replied w number call)) None) (NotNow, w)) e
      ∙ ap (λ b. told_plainly (cond b (Refused HistoryFull, w)
      (reply_to w number call, with_entry w number call (reply_to w number call)))) full

  pub direct_replies : (is_idle w number && allowed) ≡ true → is_full w ≡ false
      → unwrap_or (direct w number allowed call) (NotNow, w)
      ≡ (Replied (reply_to w number call), with_entry w number call (reply_to w number call))
  direct_replies e room = ap (λ b. unwrap_or (cond b (Some (replied w number call)) None) (NotNow, w)) e
      ∙ ap (λ b. told_plainly (cond b (Refused HistoryFull, w)
      (reply_to w number call, with_entry w number call (reply_to w number call)))) room

-- ---- a client that comes

abbrev comes : World → Reply × World → Outcome × World
comes w r = joined w r.0 r.1

pub join_done : (w : World) → is_full w ≡ false → reply_to w (next_number w) Connect ≡ Done
    → advance w Join ≡ (Joined (next_number w), with_entry w (next_number w) Connect Done)
join_done w room answer = ap (λ b. comes w
    (cond b (Refused HistoryFull, w)
    (reply_to w (next_number w) Connect, with_entry w (next_number w) Connect (reply_to w (next_number w) Connect))))
    room
    ∙ ap (λ r. joined w r (with_entry w (next_number w) Connect r)) answer
