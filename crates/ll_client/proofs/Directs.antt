-- What comes of a call that doesn't walk: of the tree, and of its client.
use Rattle.std.specs.Prelude.{◌≡◌, ◌≢◌, ℕ, ◌≤◌, List, [], ◌∷◌, ◌++◌, length, Option, Some, None, Result, Ok, Err, IfOk}
use Rattle.std.specs.Prelude.{OnErr, Bool, true, false, refl, unwrap_or, if◌then◌else◌, ◌&&◌, ◌||◌, not, is_none}
use Rattle.std.proofs.Common.{sym, subst, ap, ◌∙◌, arith}
use Rattle.ll_seq.specs.Memory.{MayStarve, takes_memory}
use Rattle.ll_seq.specs.Passed.{has_path}
use Rattle.ll_rights.specs.Map.{insert}
use Rattle.ll_seq.specs.Step.{client_of}
use Rattle.ll_seq.specs.declared.call.Call.{Call}
use Rattle.ll_laws.proofs.Chains.{same_Some}
use Rattle.ll_laws.specs.declared.step.Step.{Step}
use Rattle.ll_laws.specs.declared.step.Step.TheVariants.{Begin, Join}
use Rattle.ll_laws.specs.Walk.{Above}
use Rattle.ll_laws.proofs.Tests.{both}
use Rattle.ll_journal.proofs.Begun.{names_one}
use Rattle.ll_laws.specs.World as world
use Rattle.ll_seq.specs.Call.{targets}
use Rattle.ll_seq.specs.Stages.{early_refusals}
use Rattle.ll_laws.specs.World.{World, advance, has_any, is_idle, is_walked, shown, takes_gate}
use Rattle.ll_laws.specs.Sound.{IsSound}
use Rattle.ll_journal.specs.Book.{Book}
use Rattle.ll_journal.specs.Direct.{Answers, Starves}
use Rattle.ll_journal.specs.declared.direct.Made.{Made}
use Rattle.ll_journal.specs.declared.direct.Made.TheVariants as made
use Rattle.ll_client.specs.declared.account.Numbered.{Numbered}
use Rattle.ll_client.specs.declared.account.Starved.{Starved}
use Rattle.ll_client.specs.Entries.{doing_of, knows, part_of, starved_at}
use Rattle.ll_client.specs.Gains.{Gains}
use Rattle.ll_client.specs.Hands.{seen_made, starved_if, starves_made}
use Rattle.ll_client.specs.Replies.{Fits, success}
use Rattle.ll_client.proofs.Accounts.{IsClient}
use Rattle.ll_laws.proofs.StepGrowth.{Grown, Went, asked, by_client, called_is, client_in, doing_after, entry_of, went}
use Rattle.ll_client.proofs.Desks.{Steps, stepped, stood}
use Rattle.ll_client.proofs.Leavings.{full_grown, full_is, low_full, room_grown, told_one}

-- only a walk of a path begins
pub begun_path : (w v : World) (c : ℕ) (call : Call) → advance w (Begin c call) ≡ (world.Begun, v)
    → has_path call ≡ true
begun_path w v c call e =
    from (is_idle w c && is_walked (client_of (shown w) c) call) (not (takes_gate call) || is_none w.gate) e walked
  where
    X : world.Outcome × World
    X = (
      world.Begun,
      record w {
        walks = insert w.walks c (record { call = call; starts = 1; stale = false; at = Above });
        gate = if takes_gate call then Some c else w.gate;
      },
    )

    walked : (is_idle w c && is_walked (client_of (shown w) c) call) ≡ true → has_path call ≡ true
    walked t = let walks = (both (is_idle w c) (is_walked (client_of (shown w) c) call) t).1 in
        names_one call (both (has_any (targets call)) (not (has_any (early_refusals (client_of (shown w) c) call)))
        walks).0

    from : (i g : Bool) → unwrap_or (if i && g then Some X else None) (world.NotNow, w) ≡ (world.Begun, v)
        → (i ≡ true → has_path call ≡ true) → has_path call ≡ true
    from true g f h = h refl
    from false true f h = absurd (cc (ap (λ (p : world.Outcome × World). p.0) f))
    from false false f h = absurd (cc (ap (λ (p : world.Outcome × World). p.0) f))

-- a step of this client's, of a call that doesn't walk
pub record IsDirect (w : World) (c : ℕ) (call : Call) (s : Step) : Type 0 where
  pub mine : client_in w s ≡ c
  pub asks : asked w s ≡ Some call
  pub idle : doing_after w s ≡ None
  pub other : s ≢ Join

-- where memory ran out for it
pub direct_may : (w : World) (c : ℕ) (call : Call) (s : Step) → IsDirect w c call s → Starves w s
    → MayStarve (shown w) c call
direct_may w c call s t starves =
    let same : ◌≡◌ {A = ℕ × Call} (starves.client, starves.call) (c, call) =
    same_Some (starves.client, starves.call) (c, call)
    (sym starves.is ∙ called_is w s ∙ (λ i. by_client (t.mine i) (t.asks i))) in
    subst (λ (p : ℕ × Call). MayStarve (shown w) p.0 p.1) same starves.may

pub made_steps : (b b' : Book) (c : ℕ) (call : Call) (s : Step) (a : Made) → IsDirect b.world c call s → IsSound b.world
    → length b.world.history ≤ b.world.limit
    → Answers b s a b' → Steps b b' c
made_steps b b' c call s (made.Replied reply) t h fits d =
    subst (Steps b b') t.mine (stepped b b' s (world.Replied reply) (λ n f. absurd (cc f)) h fits d.1)
made_steps b b' c call s made.HistoryFull t h fits d = stood b b' c h fits d.1
made_steps b b' c call s made.NoMemory t h fits d = stood b b' c h fits d.0

-- the world is the same, and the client knows of so many entries
pub same_but : (b b' : Book) (c seen : ℕ) (part : List Numbered) (starved : List Starved) (before : ℕ)
    (doing : Option Call) → IsClient b c part before doing → b' ≡ b
    → knows c (part_of b'.world c) starved seen (doing_of b'.world c) ≡ knows c part starved seen doing
same_but b b' c seen part starved before doing k e =
    λ i. knows c ((ap (λ (x : Book). part_of x.world c) e ∙ sym k.part_is) i) starved seen
    ((ap (λ (x : Book). doing_of x.world c) e ∙ sym k.doing_is) i)

module _ (E : Type 0) (b b' : Book) (c seen limit : ℕ) (part : List Numbered) (starved : List Starved)
    (doing : Option Call) (call : Call) (s : Step) (t : IsDirect b.world c call s)
    (fits : length b.world.history ≤ b.world.limit) (is : b.world.limit ≡ limit)
    (k : IsClient b c part seen doing) where
  -- memory ran out
  made_without : takes_memory call ≡ true → b' ≡ b
      → Gains limit call (knows c part starved seen doing) made.NoMemory
      (knows c (part_of b'.world c) (starved ++ starved_at (length b.world.history) call ∷ [])
      (length b'.world.history) (doing_of b'.world c))
  made_without takes e =
      let same : length b'.world.history ≡ length b.world.history = ap (λ (x : Book). length x.world.history) e in (
        takes,
        (let low = k.low in omega (arith, low, same)),
        λ i. knows c ((ap (λ (x : Book). part_of x.world c) e ∙ sym k.part_is) i)
            (starved ++ starved_at (sym same i) call ∷ []) (length b'.world.history)
            ((ap (λ (x : Book). doing_of x.world c) e ∙ sym k.doing_is) i),
      )

  pub made_gains : (a : Made) → Answers b s a b'
      → Gains limit call (knows c part starved seen doing) a
      (knows c (part_of b'.world c)
      (starved_if (starves_made {E = E} (Ok a)) starved (length b.world.history) (Some call))
      (seen_made {E = E} (Ok a) seen (length b'.world.history)) (doing_of b'.world c))
  made_gains (made.Replied reply) d =
      let g = room_grown b.world b'.world s reply t.other d.0 (subst (Went b.world s) d.1 (went b.world s)) in
      let same : g.0 ≡ call = same_Some g.0 call (sym g.1 ∙ t.asks) in
      told_one b b' c seen part starved doing call reply k (subst (λ (x : Call). Fits (success x) reply) same g.2)
      (subst (λ (x : ℕ × (Option Call × Call)). Grown b.world b'.world x.0 x.1.0 (entry_of x.0 x.1.1 reply ∷ []))
      (λ i. (t.mine i, (t.idle i, same i))) g.3)
  made_gains made.HistoryFull d =
      let g = full_grown b.world b'.world s t.other (subst (Went b.world s) d.0 (went b.world s)) in
      let full = full_is b.world b'.world (client_in b.world s) limit (doing_after b.world s) g.0 fits is g.1 in (
        low_full b c seen limit part doing k fits is,
        same_but b b' c (length b'.world.history) part starved seen doing k d.1
            ∙ ap (λ n. knows c part starved n doing) full,
      )
  made_gains made.NoMemory d = made_without (direct_may b.world c call s t d.1).takes d.0

module _ {E : Type 0} where
  pub direct_steps : (b b' : Book) (c : ℕ) (call : Call) (s : Step) (r : Result Made E) → IsDirect b.world c call s
      → IsSound b.world → length b.world.history ≤ b.world.limit
      → IfOk r (λ a. Answers b s a b') → OnErr r (b' ≡ b) → Steps b b' c
  direct_steps b b' c call s (Ok a) t h fits does same = made_steps b b' c call s a t h fits does
  direct_steps b b' c call s (Err e) t h fits does same = stood b b' c h fits same

  pub direct_gains : (b b' : Book) (c seen limit : ℕ) (part : List Numbered) (starved : List Starved)
      (doing : Option Call) (call : Call) (s : Step) (r : Result Made E) → IsDirect b.world c call s
      → length b.world.history ≤ b.world.limit → b.world.limit ≡ limit → IsClient b c part seen doing
      → IfOk r (λ a. Answers b s a b')
      → IfOk r (λ a. Gains limit call (knows c part starved seen doing) a
      (knows c (part_of b'.world c) (starved_if (starves_made r) starved (length b.world.history) (Some call))
      (seen_made r seen (length b'.world.history)) (doing_of b'.world c)))
  direct_gains b b' c seen limit part starved doing call s (Ok a) t fits is k does =
      made_gains E b b' c seen limit part starved doing call s t fits is k a does
  direct_gains b b' c seen limit part starved doing call s (Err e) t fits is k does = tt

  pub direct_still : (b b' : Book) (c seen : ℕ) (part : List Numbered) (starved : List Starved) (doing : Option Call)
      (call : Call) (r : Result Made E) → IsClient b c part seen doing → OnErr r (b' ≡ b)
      → OnErr r (knows c (part_of b'.world c)
      (starved_if (starves_made r) starved (length b.world.history) (Some call))
      (seen_made r seen (length b'.world.history)) (doing_of b'.world c) ≡ knows c part starved seen doing)
  direct_still b b' c seen part starved doing call (Ok a) k same = tt
  direct_still b b' c seen part starved doing call (Err e) k same = same_but b b' c seen part starved seen doing k same

  pub direct_low : (r : Result Made E) (seen before after : ℕ) → seen ≤ before → before ≤ after
      → seen_made r seen after ≤ after
  direct_low (Ok a) seen before after low long = omega arith
  direct_low (Err e) seen before after low long = omega (arith, low, long)
