-- What lies behind the journal's lock after a step, and what the step's client gains.
use Rattle.std.specs.Prelude.{◌≡◌, ◌≢◌, ℕ, ◌+◌, ◌≤◌, ◌==◌, Bool, true, false, cond, List, [], ◌∷◌, ◌++◌}
use Rattle.std.specs.Prelude.{length, Option, Some, Result, Ok, Err, OnOk, OnErr, refl}
use Rattle.std.specs.Ordering.{nat_cmp}
use Rattle.std.proofs.Common.{sym, subst, ap, ◌∙◌, inl, inr, arith}
use Rattle.std.proofs.lemmas.List.{append-nil, length-append}
use Rattle.std.proofs.lemmas.Bool.{ne_eqb, eq-eqb}
use Rattle.ll_rights.specs.declared.limits.TheConstants.{TREE_CLIENTS, TREE_NODES}
use Rattle.ll_rights.specs.Map.{Map}
use Rattle.ll_seq.specs.declared.call.Call.{Call}
use Rattle.ll_seq.specs.declared.rules.Rules.{Rules}
use Rattle.ll_seq.specs.declared.reply.Entry.{Entry}
use Rattle.ll_seq.specs.declared.reply.Reply.{Reply}
use Rattle.ll_seq.specs.declared.reply.Reply.TheVariants as replies
use Rattle.ll_laws.specs.declared.step.Step.{Step}
use Rattle.ll_laws.specs.declared.step.Step.TheVariants.{Begin}
use Rattle.ll_laws.specs.World.{World, Outcome, NotNow, Begun, Stands, Forked, Restarted, Replied, Joined}
use Rattle.ll_laws.specs.World.{reply_to, advance}
use Rattle.ll_laws.specs.Sound.{IsSound}
use Rattle.ll_laws.proofs.SoundSteps.{sound_kept}
use Rattle.ll_journal.specs.Book.{Book, Spares}
use Rattle.ll_journal.specs.Steps.{Does}
use Rattle.ll_journal.specs.declared.progress.Progress as told
use Rattle.ll_journal.specs.declared.progress.Progress.TheVariants as tells
use Rattle.ll_client.specs.declared.account.Account.{Account}
use Rattle.ll_client.specs.declared.account.Numbered.{Numbered}
use Rattle.ll_client.specs.declared.account.Starved.{Starved}
use Rattle.ll_client.specs.Entries.{AreAccounts, IsDesk, doing_of, knows, numbered, part_from, part_of}
use Rattle.ll_client.proofs.Accounts.{Moved}
use Rattle.ll_client.proofs.Orders.{InOrder, OnlyJoins, in_order_after}
use Rattle.ll_laws.proofs.Growth.{still_within}
use Rattle.ll_laws.proofs.StepGrowth.{Grown, Went, client_in, doing_after, entry_of, went}
use Rattle.ll_client.proofs.Walked.{clients_none, clients_one}

-- ---- parts of a history that is one entry longer

cond_append : (b : Bool) (x : Numbered) (xs ys : List Numbered)
    → cond b (x ∷ xs) xs ++ ys ≡ cond b (x ∷ (xs ++ ys)) (xs ++ ys)
cond_append true x xs ys = refl
cond_append false x xs ys = refl

part_push : (n c : ℕ) (es : List Entry) (e : Entry)
    → part_from n c (es ++ e ∷ []) ≡ part_from n c es
    ++ cond (e.client == c) (numbered (n + length es + 1) e.call e.reply ∷ []) []
part_push n c [] e = let m : n + 1 ≡ n + 0 + 1 = omega arith in
    ap (λ (k : ℕ). cond (e.client == c) (numbered k e.call e.reply ∷ []) []) m
part_push n c (x ∷ es) e =
    let m : n + 1 + length es + 1 ≡ n + length (x ∷ es) + 1 = omega arith in
    let last : List Numbered = cond (e.client == c) (numbered (n + 1 + length es + 1) e.call e.reply ∷ []) [] in
    ap (λ (r : List Numbered). cond (x.client == c) (numbered (n + 1) x.call x.reply ∷ r) r) (part_push (n + 1) c es e)
    ∙ sym (cond_append (x.client == c) (numbered (n + 1) x.call x.reply) (part_from (n + 1) c es) last)
    ∙ ap (λ (k : ℕ). cond (x.client == c) (numbered (n + 1) x.call x.reply ∷ part_from (n + 1) c es)
    (part_from (n + 1) c es)
    ++ cond (e.client == c) (numbered k e.call e.reply ∷ []) []) m

pub part_mine : (es : List Entry) (e : Entry)
    → part_from 0 e.client (es ++ e ∷ []) ≡ part_from 0 e.client es ++ numbered (length es + 1) e.call e.reply ∷ []
part_mine es e =
    part_push 0 e.client es e
    ∙ (let m : 0 + length es + 1 ≡ length es + 1 = omega arith in
    λ i. part_from 0 e.client es ++ cond (eq-eqb e.client e.client refl i) (numbered (m i) e.call e.reply ∷ []) [])

pub part_other : (es : List Entry) (e : Entry) (c : ℕ) → e.client ≢ c → part_from 0 c (es ++ e ∷ []) ≡ part_from 0 c es
part_other es e c apart =
    part_push 0 c es e ∙ ap (λ (b : Bool). part_from 0 c es
    ++ cond b (numbered (0 + length es + 1) e.call e.reply ∷ []) []) (ne_eqb e.client c apart)
    ∙ append-nil (part_from 0 c es)

-- ---- a step, by what it adds

module _ (w v : World) (c : ℕ) (doing : Option Call) where
  pub moved_none : Grown w v c doing [] → Moved w v c
  moved_none g =
      let same : v.history ≡ w.history = g.came ∙ append-nil w.history in
      record {
        parts = λ d other. ap (part_from 0 d) same;
        doing = g.others;
        long = (let n = ap length same in omega (arith, n));
        clients = clients_none w v c doing g;
        came = ([], g.came);
        rules = g.rules;
        room = g.room;
      }

  pub moved_one : (call : Call) (reply : Reply) → reply ≡ reply_to w c call
      → Grown w v c doing (entry_of c call reply ∷ []) → Moved w v c
  moved_one call reply is g =
      let e = entry_of c call reply in
      record {
        parts = λ d other. ap (part_from 0 d) g.came ∙ part_other w.history e d (λ s. other (sym s));
        doing = g.others;
        long = (let n = ap length g.came in let m = length-append w.history (e ∷ []) in omega (arith, n, m));
        clients = clients_one w v c c doing call reply is g;
        came = (e ∷ [], g.came);
        rules = g.rules;
        room = g.room;
      }

same_moved : (w v : World) (c : ℕ) → v ≡ w → Moved w v c
same_moved w v c e = subst (λ (u : World). Moved w u c) (sym e)
    (record {
      parts = λ d other. refl;
      doing = λ d other. refl;
      long = omega arith;
      clients = λ d h. h;
      came = ([], sym (append-nil w.history));
      rules = refl;
      room = refl;
    })

-- nothing else of the tree changes its limit
pub record Steps (b b' : Book) (c : ℕ) : Type 0 where
  pub moved : Moved b.world b'.world c
  pub rules : b'.world.rules ≡ b.world.rules
  pub room : b'.world.room ≡ b.world.room
  pub sound : IsSound b'.world
  pub within : length b'.world.history ≤ b'.world.limit
  pub numbered : InOrder b.world → InOrder b'.world

moved_so : (w : World) (s : Step) (p : Outcome × World) → Went w s p → Moved w p.1 (client_in w s)
moved_so w s (NotNow, v) g = same_moved w v (client_in w s) g
moved_so w s (Begun, v) g = moved_none w v _ _ g
moved_so w s (Stands inode, v) g = moved_none w v _ _ g
moved_so w s (Forked, v) g = moved_none w v _ _ g
moved_so w s (Restarted, v) g = moved_none w v _ _ g
moved_so w s (Replied reply, v) (inl g) = moved_none w v _ _ g.1
moved_so w s (Replied reply, v) (inr (inl g)) = same_moved w v (client_in w s) g.1
moved_so w s (Replied reply, v) (inr (inr g)) = moved_one w v _ _ g.1 reply g.3 g.4
moved_so w s (Joined number, v) g = subst (λ n. Moved w v n) g.1 (moved_one w v number _ _ replies.Done g.2 g.3)

-- the rules that it keeps, and how many nodes may live in it
record KeepsRules (w v : World) : Type 0 where
  rules : v.rules ≡ w.rules
  room : v.room ≡ w.room

ruled : (w v : World) (c : ℕ) (doing : Option Call) (added : List Entry) → Grown w v c doing added → KeepsRules w v
ruled w v c doing added g = record { rules = g.rules; room = g.room }

same_ruled : (w v : World) → v ≡ w → KeepsRules w v
same_ruled w v e = record { rules = ap (λ (u : World). u.rules) e; room = ap (λ (u : World). u.room) e }

ruled_so : (w : World) (s : Step) (p : Outcome × World) → Went w s p → KeepsRules w p.1
ruled_so w s (NotNow, v) g = same_ruled w v g
ruled_so w s (Begun, v) g = ruled w v _ _ _ g
ruled_so w s (Stands inode, v) g = ruled w v _ _ _ g
ruled_so w s (Forked, v) g = ruled w v _ _ _ g
ruled_so w s (Restarted, v) g = ruled w v _ _ _ g
ruled_so w s (Replied reply, v) (inl g) = ruled w v _ _ _ g.1
ruled_so w s (Replied reply, v) (inr (inl g)) = same_ruled w v g.1
ruled_so w s (Replied reply, v) (inr (inr g)) = ruled w v _ _ _ g.4
ruled_so w s (Joined number, v) g = ruled w v _ _ _ g.3

after_ruled : (w : World) (s : Step) → KeepsRules w (advance w s).1
after_ruled w s = ruled_so w s (advance w s) (went w s)

pub stepped : (b b' : Book) (s : Step) (p : Outcome) → OnlyJoins s p → IsSound b.world
    → length b.world.history ≤ b.world.limit → advance b.world s ≡ (p, b'.world) → Steps b b' (client_in b.world s)
stepped b b' s p only h fits e = record {
  moved = subst (λ (q : Outcome × World). Moved b.world q.1 (client_in b.world s)) e
      (moved_so b.world s (advance b.world s) (went b.world s));
  sound = subst (λ (q : Outcome × World). IsSound q.1) e (sound_kept b.world s h);
  rules = subst (λ (q : Outcome × World). q.1.rules ≡ b.world.rules) e (after_ruled b.world s).rules;
  room = subst (λ (q : Outcome × World). q.1.room ≡ b.world.room) e (after_ruled b.world s).room;
  within = subst (λ (q : Outcome × World). length q.1.history ≤ q.1.limit) e (still_within b.world s fits);
  numbered = in_order_after b.world s p b'.world h.valid only e (subst (Went b.world s) e (went b.world s))
      (subst (λ (q : Outcome × World). IsSound q.1) e (sound_kept b.world s h)).numbers;
}

pub stood : (b b' : Book) (c : ℕ) → IsSound b.world → length b.world.history ≤ b.world.limit → b' ≡ b → Steps b b' c
stood b b' c h fits e = subst (λ (x : Book). Steps b x c) (sym e)
    (record {
      moved = same_moved b.world b.world c refl;
      rules = refl;
      room = refl;
      sound = h;
      within = fits;
      numbered = λ order. order;
    })

-- ---- steps of a walk that goes on: its client knows what it knew

pub record GoesOn (b b' : Book) (c : ℕ) : Type 0 where
  pub steps : Steps b b' c
  pub history : b'.world.history ≡ b.world.history
  pub doing : doing_of b'.world c ≡ doing_of b.world c

same_goes : (b b' : Book) (c : ℕ) → IsSound b.world → length b.world.history ≤ b.world.limit → b' ≡ b → GoesOn b b' c
same_goes b b' c h fits e =
    record {
      steps = stood b b' c h fits e;
      history = ap (λ (x : Book). x.world.history) e;
      doing = ap (λ (x : Book). doing_of x.world c) e;
    }

grown_goes : (b b' : Book) (s : Step) (p : Outcome) → OnlyJoins s p → IsSound b.world
    → length b.world.history ≤ b.world.limit
    → advance b.world s ≡ (p, b'.world)
    → doing_after b.world s ≡ doing_of b.world (client_in b.world s)
    → Grown b.world b'.world (client_in b.world s) (doing_after b.world s) [] → GoesOn b b' (client_in b.world s)
grown_goes b b' s p only h fits e after g =
    record {
      steps = stepped b b' s p only h fits e;
      history = g.came ∙ append-nil b.world.history;
      doing = g.mine
          ∙ after;
    }

not_now : (b b' : Book) (s : Step) → IsSound b.world → length b.world.history ≤ b.world.limit
    → advance b.world s ≡ (NotNow, b'.world) → GoesOn b b' (client_in b.world s)
not_now b b' s h fits e =
    let same : b'.world ≡ b.world = subst (Went b.world s) e (went b.world s) in
    record {
      steps = stepped b b' s NotNow (λ n f. absurd (cc f)) h fits e;
      history = ap (λ (x : World). x.history) same;
      doing = ap (λ (x : World). doing_of x (client_in b.world s)) same;
    }

pub does_goes : (b b' : Book) (s : Step) (o : told.Progress) → IsSound b.world → length b.world.history ≤ b.world.limit
    → doing_after b.world s ≡ doing_of b.world (client_in b.world s) → Does b s o b' → GoesOn b b' (client_in b.world s)
does_goes b b' s tells.NotNow h fits after d = not_now b b' s h fits d
does_goes b b' s tells.Astray h fits after d = same_goes b b' (client_in b.world s) h fits d
does_goes b b' s (tells.Stands inode) h fits after d =
    grown_goes b b' s (Stands inode) (λ n f. absurd (cc f)) h fits d after (subst (Went b.world s) d (went b.world s))
does_goes b b' s tells.Forked h fits after d =
    grown_goes b b' s Forked (λ n f. absurd (cc f)) h fits d after (subst (Went b.world s) d (went b.world s))
does_goes b b' s tells.Restarted h fits after d =
    grown_goes b b' s Restarted (λ n f. absurd (cc f)) h fits d after (subst (Went b.world s) d (went b.world s))

-- the client is as it was
pub knows_same : (b b' : Book) (c seen : ℕ) (part : List Numbered) (starved : List Starved) (doing : Option Call)
    → GoesOn b b' c → part ≡ part_of b.world c → doing ≡ doing_of b.world c
    → knows c (part_of b'.world c) starved seen (doing_of b'.world c) ≡ knows c part starved seen doing
knows_same b b' c seen part starved doing g part_is doing_is =
    λ i. knows c ((ap (part_from 0 c) g.history ∙ sym part_is) i) starved seen ((g.doing ∙ sym doing_is) i)

-- ---- the desk after a step

pub desk_kept : (slots limit : ℕ) (rules : Rules) (b b' : Book) (c : ℕ) (ks : List ℕ) (m n : Map nat_cmp Account)
    → IsDesk slots limit rules b m → Steps b b' c → Spares b b' ks → AreAccounts b' n
    → IsDesk slots limit rules b' n
desk_kept slots limit rules b b' c ks m n d s p all = record {
  accounts = all;
  sound = s.sound;
  numbered = s.numbered d.numbered;
  within = s.within;
  limit_is = p.limit ∙ d.limit_is;
  rules_are = s.rules ∙ d.rules_are;
  room_is = ap (λ n. n + TREE_CLIENTS) s.room ∙ d.room_is;
  slots_are = p.size ∙ d.slots_are;
  few = subst (λ k. k ≤ TREE_NODES + TREE_CLIENTS) (sym p.size) d.few;
}

-- after a look
pub desk_seen : (slots limit : ℕ) (rules : Rules) (b : Book) (m n : Map nat_cmp Account) → IsDesk slots limit rules b m
    → AreAccounts b n
    → IsDesk slots limit rules b n
desk_seen slots limit rules b m n d all = record {
  accounts = all;
  sound = d.sound;
  numbered = d.numbered;
  within = d.within;
  limit_is = d.limit_is;
  rules_are = d.rules_are;
  room_is = d.room_is;
  slots_are = d.slots_are;
  few = d.few;
}

-- ---- a walk that begins

pub begin_steps : (b b' : Book) (c : ℕ) (call : Call) (r : Result (Unit {0}) Call) → IsSound b.world
    → length b.world.history ≤ b.world.limit
    → OnOk r (advance b.world (Begin c call) ≡ (Begun, b'.world)) → OnErr r (b' ≡ b) → Steps b b' c
begin_steps b b' c call (Ok o) h fits begun same =
    stepped b b' (Begin c call) Begun (λ n f. absurd (cc f)) h fits begun
begin_steps b b' c call (Err e) h fits begun same = stood b b' c h fits same

pub begin_mine : (b b' : Book) (c seen : ℕ) (part : List Numbered) (starved : List Starved) (doing : Option Call)
    (call : Call) (r : Result (Unit {0}) Call) → part ≡ part_of b.world c
    → OnOk r (advance b.world (Begin c call) ≡ (Begun, b'.world))
    → OnOk r (knows c (part_of b'.world c) starved seen (doing_of b'.world c)
    ≡ record (knows c part starved seen doing) { doing = Some call })
begin_mine b b' c seen part starved doing call (Err e) is begun = tt
begin_mine b b' c seen part starved doing call (Ok o) is begun =
    let g = subst (Went b.world (Begin c call)) begun (went b.world (Begin c call)) in
    λ i. knows c ((ap (part_from 0 c) (g.came ∙ append-nil b.world.history) ∙ sym is) i) starved seen (g.mine i)

pub begin_still : (b b' : Book) (c seen : ℕ) (part : List Numbered) (starved : List Starved) (doing : Option Call)
    (r : Result (Unit {0}) Call) → part ≡ part_of b.world c → doing ≡ doing_of b.world c → OnErr r (b' ≡ b)
    → OnErr r (knows c (part_of b'.world c) starved seen (doing_of b'.world c) ≡ knows c part starved seen doing)
begin_still b b' c seen part starved doing (Ok o) is did same = tt
begin_still b b' c seen part starved doing (Err e) is did same =
    λ i. knows c ((ap (λ (x : Book). part_of x.world c) same ∙ sym is) i) starved seen
    ((ap (λ (x : Book). doing_of x.world c) same ∙ sym did) i)
