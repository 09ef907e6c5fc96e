-- What comes of a walk that is left: of the tree, and of its client.
use Rattle.std.specs.Prelude.{◌≡◌, ◌≢◌, ℕ, ◌+◌, ◌≤◌, true, false, List, [], ◌∷◌, ◌++◌, length}
use Rattle.std.specs.Prelude.{Option, Some, None, option_map, refl}
use Rattle.std.specs.Cmp.{nat_cmp_total}
use Rattle.std.specs.FinMap.{nat_cmp-IsAntisymmetric}
use Rattle.std.proofs.Common.{sym, subst, ap, ◌∙◌, inl, inr, arith}
use Rattle.std.proofs.lemmas.List.{append-nil, length-append}
use Rattle.std.proofs.lemmas.Bool.{leb-true}
use Rattle.ll_rights.specs.declared.errno.Errno.TheVariants.{HistoryFull}
use Rattle.ll_rights.specs.Map.{get}
use Rattle.ll_rights.proofs.Maps.{get-remove_other}
use Rattle.ll_seq.specs.declared.call.Call.{Call}
use Rattle.ll_seq.specs.declared.reply.Reply.{Reply}
use Rattle.ll_seq.specs.declared.reply.Reply.TheVariants.{Refused}
use Rattle.ll_seq.specs.Memory.{takes_memory}
use Rattle.ll_laws.specs.declared.step.Step.{Step}
use Rattle.ll_laws.specs.declared.step.Step.TheVariants as steps
use Rattle.ll_laws.specs.Walk.{Walk}
use Rattle.ll_laws.specs.World as world
use Rattle.ll_laws.specs.World.{World, advance, is_full, restart, shown, without_walk, next_number}
use Rattle.ll_laws.specs.Sound.{IsSound}
use Rattle.ll_laws.proofs.SoundSteps.{sound_ended}
use Rattle.ll_journal.specs.Book.{Book}
use Rattle.ll_journal.specs.Direct.{Starves}
use Rattle.ll_journal.specs.declared.progress.Progress.TheVariants as tells
use Rattle.ll_journal.proofs.Starved.{starved_walk}
use Rattle.ll_client.specs.declared.account.Numbered.{Numbered}
use Rattle.ll_client.specs.declared.account.Starved.{Starved}
use Rattle.ll_client.specs.declared.left.Leaving.{Leaving}
use Rattle.ll_client.specs.declared.left.Leaving.TheVariants.{Commit, Restart}
use Rattle.ll_client.specs.declared.left.Left.{Left}
use Rattle.ll_client.specs.declared.left.Left.TheVariants as left
use Rattle.ll_client.specs.Entries.{doing_of, knows, numbered, part_of, part_from}
use Rattle.ll_client.specs.Gains.{Goes, Leaves, Told}
use Rattle.ll_client.specs.Hands.{seen_of, starved_if, starves_left, with_starved}
use Rattle.ll_client.specs.Replies.{Fits, success}
use Rattle.ll_client.proofs.Replies.{step_fits}
use Rattle.ll_client.proofs.Accounts.{IsClient, Moved}
use Rattle.ll_client.proofs.Orders.{InOrder}
use Rattle.ll_laws.proofs.StepGrowth.{Grown, Went, asked, client_in, doing_after, entry_of, never_full, gone, went}
use Rattle.ll_client.proofs.Desks.{Steps, does_goes, knows_same, part_mine, stepped, stood}

-- ---- of the tree

abbrev call_in : Option Walk → Option Call
call_in = option_map (λ (walk : Walk). walk.call)

none_doing : (w : World) (c : ℕ) → doing_of (without_walk w c) c ≡ None
none_doing w c = ap call_in (gone w.walks c)

given_up : (b b' : Book) (c : ℕ) (walk : Walk) → IsSound b.world → length b.world.history ≤ b.world.limit
    → get b.world.walks c ≡ Some walk
    → b'.world ≡ without_walk b.world c → Steps b b' c
given_up b b' c walk h fits is e = record {
  moved = subst (λ (v : World). Moved b.world v c) (sym e) (record {
    parts = λ d other. refl;
    doing = λ d other. ap call_in (get-remove_other nat_cmp_total nat_cmp-IsAntisymmetric b.world.walks c d other);
    long = omega arith;
    clients = λ d there. there;
    came = ([], sym (append-nil b.world.history));
    rules = refl;
    room = refl;
  });
  rules = ap (λ (v : World). v.rules) e;
  room = ap (λ (v : World). v.room) e;
  sound = subst IsSound (sym e) (sound_ended b.world c walk h is);
  within = subst (λ (v : World). length v.history ≤ v.limit) (sym e) fits;
  numbered = subst (λ (v : World). InOrder b.world → InOrder v) (sym e) (λ order. order);
}

pub left_steps : (how : Leaving) (b b' : Book) (c : ℕ) (l : Left) → IsSound b.world
    → length b.world.history ≤ b.world.limit → Leaves how b c l b' → Steps b b' c
left_steps Commit b b' c left.NotNow h fits d =
    stepped b b' (steps.Commit c) world.NotNow (λ n f. absurd (cc f)) h fits d
left_steps Commit b b' c left.Astray h fits d = stood b b' c h fits d
left_steps Commit b b' c (left.Answered reply) h fits d =
    stepped b b' (steps.Commit c) (world.Replied reply) (λ n f. absurd (cc f)) h fits d.1
left_steps Commit b b' c left.Again h fits d = absurd d
left_steps Commit b b' c left.HistoryFull h fits d =
    stepped b b' (steps.Commit c) (world.Replied (Refused HistoryFull)) (λ n f. absurd (cc f)) h fits d
left_steps Commit b b' c left.NoMemory h fits d =
    let ends = starved_walk b.world c d.0 in given_up b b' c ends.0 h fits ends.1 d.1
left_steps Restart b b' c left.NotNow h fits d =
    stepped b b' (steps.Restart c) world.NotNow (λ n f. absurd (cc f)) h fits d
left_steps Restart b b' c left.Astray h fits d = stood b b' c h fits d
left_steps Restart b b' c (left.Answered reply) h fits d = absurd d
left_steps Restart b b' c left.Again h fits d =
    stepped b b' (steps.Restart c) world.Restarted (λ n f. absurd (cc f)) h fits d
left_steps Restart b b' c left.HistoryFull h fits d = absurd d
left_steps Restart b b' c left.NoMemory h fits d = absurd d

-- ---- of the client

-- one entry more
pub told_one : (b b' : Book) (c seen : ℕ) (part : List Numbered) (starved : List Starved) (doing : Option Call)
    (call : Call) (reply : Reply) → IsClient b c part seen doing → Fits (success call) reply
    → Grown b.world b'.world c None (entry_of c call reply ∷ [])
    → Told call reply (knows c part starved seen doing)
    (knows c (part_of b'.world c) starved (length b'.world.history) (doing_of b'.world c))
told_one b b' c seen part starved doing call reply k fits g =
    let e = entry_of c call reply in
    let more : length b'.world.history ≡ length b.world.history + 1 =
    ap length g.came ∙ length-append b.world.history (e ∷ []) in
    let new : part_of b'.world c ≡ part ++ numbered (length b'.world.history) call reply ∷ [] =
    ap (part_from 0 c) g.came ∙ part_mine b.world.history e
    ∙ (λ i. sym k.part_is i ++ numbered (sym more i) call reply ∷ []) in (
      (let low = k.low in omega (arith, more, low)),
      fits,
      λ i. knows c (new i) starved (length b'.world.history) (g.mine i),
    )

-- the history is full, and stays so
pub full_is : (w v : World) (c limit : ℕ) (doing : Option Call) → is_full w ≡ true → length w.history ≤ w.limit
    → w.limit ≡ limit → Grown w v c doing [] → length v.history ≡ limit
full_is w v c limit doing full fits is g =
    let low : w.limit ≤ length w.history = leb-true w.limit (length w.history) full in
    let same : length v.history ≡ length w.history = ap length (g.came ∙ append-nil w.history) in
    omega (arith, low, fits, is, same)

-- a reply that only a full history gives
pub full_grown : (w v : World) (s : Step) → s ≢ steps.Join → Went w s (world.Replied (Refused HistoryFull), v)
    → (is_full w ≡ true) × Grown w v (client_in w s) (doing_after w s) []
full_grown w v s other (inl g) = g
full_grown w v s other (inr (inl g)) = absurd (other g.0)
full_grown w v s other (inr (inr g)) = absurd (never_full (shown w) (client_in w s) g.1 (next_number w) g.3)

-- so the client knew of no later entry
pub low_full : (b : Book) (c seen limit : ℕ) (part : List Numbered) (doing : Option Call) → IsClient b c part seen doing
    → length b.world.history ≤ b.world.limit → b.world.limit ≡ limit → seen ≤ limit
low_full b c seen limit part doing k fits is = let low = k.low in omega (arith, low, fits, is)

-- with a reply where there is room
pub room_grown : (w v : World) (s : Step) (reply : Reply) → s ≢ steps.Join → is_full w ≡ false
    → Went w s (world.Replied reply, v)
    → (call : Call) × (asked w s ≡ Some call) × Fits (success call) reply
    × Grown w v (client_in w s) (doing_after w s) (entry_of (client_in w s) call reply ∷ [])
room_grown w v s reply other room (inl g) = absurd (cc (sym g.0 ∙ room))
room_grown w v s reply other room (inr (inl g)) = absurd (other g.0)
room_grown w v s reply other room (inr (inr g)) =
    (g.1, g.2, subst (Fits (success g.1)) (sym g.3) (step_fits (shown w) (client_in w s) g.1 (next_number w)), g.4)

-- the walk's call is what its client does
abbrev Thrifty : Book → ℕ → Option Call → Type 0
Thrifty b c doing =
    (call : Call) × (doing_of b.world c ≡ Some call) × (doing ≡ Some call) × (takes_memory call ≡ true)

thrifty : (b : Book) (c seen : ℕ) (part : List Numbered) (doing : Option Call) → IsClient b c part seen doing
    → Starves b.world (steps.Commit c) → Thrifty b c doing
thrifty b c seen part doing k starves = let ends = starved_walk b.world c starves in
    (ends.0.call, ap call_in ends.1, k.doing_is ∙ ap call_in ends.1, ends.2.takes)

module _ (b b' : Book) (c seen limit : ℕ) (part : List Numbered) (starved : List Starved) (doing : Option Call)
    (fits : length b.world.history ≤ b.world.limit) (is : b.world.limit ≡ limit)
    (k : IsClient b c part seen doing) where
  -- the world is the same
  still : b'.world ≡ b.world
      → knows c (part_of b'.world c) starved seen (doing_of b'.world c) ≡ knows c part starved seen doing
  still same = λ i. knows c ((ap (λ w. part_of w c) same ∙ sym k.part_is) i) starved seen
      ((ap (λ w. doing_of w c) same ∙ sym k.doing_is) i)

  -- memory ran out
  without : b'.world ≡ without_walk b.world c → Thrifty b c doing
      → Goes limit (knows c part starved seen doing) left.NoMemory
      (knows c (part_of b'.world c) (with_starved starved (length b.world.history) (doing_of b.world c))
      (length b'.world.history) (doing_of b'.world c))
  without gone m =
      let same : length b'.world.history ≡ length b.world.history = ap (λ (w : World). length w.history) gone in (
        m.0,
        m.2,
        m.3,
        (let low = k.low in omega (arith, low, same)),
        λ i. knows c ((ap (λ (w : World). part_of w c) gone ∙ sym k.part_is) i)
            (with_starved starved (sym same i) (m.1 i)) (length b'.world.history)
            ((ap (λ (w : World). doing_of w c) gone ∙ none_doing b.world c) i),
      )

  pub left_goes : (how : Leaving) (l : Left) → IsSound b.world → Leaves how b c l b'
      → Goes limit (knows c part starved seen doing) l
      (knows c (part_of b'.world c)
      (starved_if (starves_left l) starved (length b.world.history) (doing_of b.world c))
      (seen_of l seen (length b'.world.history)) (doing_of b'.world c))
  left_goes Commit left.NotNow h d =
      still (subst (Went b.world (steps.Commit c)) d (went b.world (steps.Commit c)))
  left_goes Commit left.Astray h d = still (ap (λ (x : Book). x.world) d)
  left_goes Commit (left.Answered reply) h d =
      let g = room_grown b.world b'.world (steps.Commit c) reply (λ e. cc e) d.0
      (subst (Went b.world (steps.Commit c)) d.1 (went b.world (steps.Commit c))) in
      (g.0, k.doing_is ∙ g.1, told_one b b' c seen part starved doing g.0 reply k g.2 g.3)
  left_goes Commit left.Again h d = absurd d
  left_goes Commit left.HistoryFull h d =
      let g = full_grown b.world b'.world (steps.Commit c) (λ e. cc e)
      (subst (Went b.world (steps.Commit c)) d (went b.world (steps.Commit c))) in
      let full = full_is b.world b'.world c limit None g.0 fits is g.1 in (
        low_full b c seen limit part doing k fits is,
        λ i. knows c ((ap (part_from 0 c) (g.1.came ∙ append-nil b.world.history) ∙ sym k.part_is) i) starved (full i)
            (g.1.mine i),
      )
  left_goes Commit left.NoMemory h d = without d.1 (thrifty b c seen part doing k d.0)
  left_goes Restart left.NotNow h d =
      still (subst (Went b.world (steps.Restart c)) d (went b.world (steps.Restart c)))
  left_goes Restart left.Astray h d = still (ap (λ (x : Book). x.world) d)
  left_goes Restart (left.Answered reply) h d = absurd d
  left_goes Restart left.Again h d =
      knows_same b b' c seen part starved doing (does_goes b b' (steps.Restart c) tells.Restarted h fits refl d)
      k.part_is k.doing_is
  left_goes Restart left.HistoryFull h d = absurd d
  left_goes Restart left.NoMemory h d = absurd d

-- what it knows of is there
pub seen_low : (l : Left) (seen before after : ℕ) → seen ≤ before → before ≤ after → seen_of l seen after ≤ after
seen_low left.NotNow seen before after low long = omega (arith, low, long)
seen_low left.Astray seen before after low long = omega (arith, low, long)
seen_low (left.Answered reply) seen before after low long = omega arith
seen_low left.Again seen before after low long = omega (arith, low, long)
seen_low left.HistoryFull seen before after low long = omega arith
seen_low left.NoMemory seen before after low long = omega arith
