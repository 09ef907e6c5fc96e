-- A client that comes, by a connect or as a child: before it nothing is known of its number, and then it is there.
use Rattle.std.specs.Prelude.{◌≡◌, ◌≢◌, ◌⊎◌, ℕ, ◌+◌, ◌*◌, ◌<◌, ◌≤◌, Bool, true, false, cond, not, List, [], ◌∷◌, ◌++◌}
use Rattle.std.specs.Prelude.{map, length, Option, Some, None, is_some, option_map, nat_le, Result, Ok, Err, IfOk}
use Rattle.std.specs.Prelude.{IfErr, OnErr, unwrap_or, ◌&&◌, if◌then◌else◌, refl}
use Rattle.std.specs.Ordering.{nat_cmp}
use Rattle.std.specs.Cmp.{nat_cmp_total}
use Rattle.std.specs.FinMap.{nat_cmp-IsAntisymmetric}
use Rattle.std.proofs.Common.{sym, subst, ap, ◌∙◌, inl, inr, arith}
use Rattle.std.proofs.lemmas.Bool.{false≢true, leb-false, leb-true, ne_eqb}
use Rattle.std.proofs.lemmas.List.{length-append}
use Rattle.ll_rights.specs.declared.errno.Errno.{Errno}
use Rattle.ll_rights.specs.declared.errno.Errno.TheVariants as errnos
use Rattle.ll_rights.specs.declared.errno.Errno.TheVariants.{EMFILE, HistoryFull, NoMemory}
use Rattle.ll_rights.specs.declared.limits.TheConstants.{TREE_CLIENTS}
use Rattle.ll_rights.specs.Errno.{refuse}
use Rattle.ll_rights.specs.Map.{Map, get, has, len}
use Rattle.ll_rights.proofs.Maps.{get-insert_same}
use Rattle.ll_seq.specs.declared.call.Call.{Call}
use Rattle.ll_seq.specs.declared.rules.Rules.{Rules}
use Rattle.ll_seq.specs.declared.call.Call.TheVariants as calls
use Rattle.ll_seq.specs.declared.client.ClientRecord.{ClientRecord}
use Rattle.ll_seq.specs.declared.reply.Entry.{Entry}
use Rattle.ll_seq.specs.declared.reply.Reply.{Reply}
use Rattle.ll_seq.specs.declared.reply.Reply.TheVariants as replies
use Rattle.ll_seq.specs.State.{State, new_client, start}
use Rattle.ll_seq.specs.Step.{step, client_of}
use Rattle.ll_seq.specs.History.{IsLegal, MayStand, after, fresh_of, is_connect, state_after}
use Rattle.ll_seq.proofs.Consequences.{step-clients_stay, step-spawned}
use Rattle.ll_laws.proofs.Chains.{same_Some}
use Rattle.ll_laws.specs.declared.step.Step.{Step}
use Rattle.ll_laws.specs.declared.step.Step.TheVariants.{ClientStep, Join}
use Rattle.ll_laws.specs.Walk.{Walk}
use Rattle.ll_laws.specs.World as world
use Rattle.ll_laws.specs.World.{World, Outcome, advance, answered, is_alone, is_full, is_idle, next_number}
use Rattle.ll_laws.specs.World.{joined, reply_to, shown}
use Rattle.ll_laws.specs.Walks.{AreValid}
use Rattle.ll_laws.proofs.OneCall.{unused}
use Rattle.ll_journal.specs.Book.{Book}
use Rattle.ll_journal.specs.Direct.{Answers}
use Rattle.ll_journal.specs.declared.direct.Made.{Made}
use Rattle.ll_journal.specs.declared.direct.Made.TheVariants as made
use Rattle.ll_journal.proofs.OwnAnswers.{connect_done, nothing_denied, spawn_refused, spawned}
use Rattle.ll_journal.proofs.Shown.{step_refused}
use Rattle.ll_client.specs.declared.account.Account.{Account}
use Rattle.ll_client.specs.declared.account.Account.TheVariants.{Slot, Client, Wants}
use Rattle.ll_client.specs.declared.account.Numbered.{Numbered}
use Rattle.ll_client.specs.declared.account.Starved.{Starved}
use Rattle.ll_client.specs.CallStart.{HasNoPlace, is_at_full, knows_full, spawn_made}
use Rattle.ll_client.specs.Entries.{AreAccounts, IsAccount, IsDesk, Knows, doing_of, knows, numbered, part_from}
use Rattle.ll_client.specs.Entries.{part_of}
use Rattle.ll_client.specs.Hands.{HasCome, child_of, child_told, seen_made, starved_if, starves_made}
use Rattle.ll_client.specs.Gains.{Gains}
use Rattle.ll_client.proofs.Accounts.{IsClient}
use Rattle.ll_client.proofs.Directs.{IsDirect, direct_gains, direct_steps}
use Rattle.ll_client.proofs.Desks.{Steps, part_mine, part_other, stepped}
use Rattle.ll_laws.proofs.StepGrowth.{Grown, Went, entry_of, never_full, went}
use Rattle.ll_client.proofs.Walked.{shown_one}
use Rattle.ll_laws.proofs.Shapes.{with_entry}

-- ---- who connects is there then, and isn't one too many

connect_refused : (s : State) (number fresh : ℕ) → nat_le TREE_CLIENTS (len s.clients) ≡ true
    → step s number calls.Connect fresh ≡ (replies.Refused EMFILE, s)
connect_refused s number fresh many = step_refused s number calls.Connect fresh (replies.Refused EMFILE) []
    (ap (λ ds. (map replies.Denied ds ++ [])
    ++ map replies.Refused (refuse (nat_le TREE_CLIENTS (len s.clients)) EMFILE))
    (nothing_denied s (client_of s number).domain) ∙ ap (λ b. map replies.Refused (refuse b EMFILE)) many)

connect_few : (s : State) (number fresh : ℕ) → replies.Done ≡ (step s number calls.Connect fresh).0
    → nat_le TREE_CLIENTS (len s.clients) ≡ false
connect_few s number fresh told = by (nat_le TREE_CLIENTS (len s.clients)) refl
  where
    by : (b : Bool) → nat_le TREE_CLIENTS (len s.clients) ≡ b → b ≡ false
    by false e = refl
    by true e = absurd (cc (told ∙ ap (λ (p : Reply × State). p.0) (connect_refused s number fresh e)))

connect_there : (s : State) (number fresh : ℕ) → replies.Done ≡ (step s number calls.Connect fresh).0
    → has (step s number calls.Connect fresh).1.clients number ≡ true
connect_there s number fresh told =
    ap (λ (p : Reply × State). has p.1.clients number)
    (connect_done s number fresh (connect_few s number fresh told))
    ∙ ap is_some (get-insert_same nat_cmp_total nat_cmp-IsAntisymmetric s.clients number new_client)

-- ---- a client that isn't there has no entry

connect_is : (call : Call) → is_connect call ≡ true → call ≡ calls.Connect
connect_is calls.Connect e = refl
connect_is (calls.Make k t) e = absurd (false≢true e)
connect_is (calls.Open m t) e = absurd (false≢true e)
connect_is (calls.Read d o n) e = absurd (false≢true e)
connect_is (calls.Write d o b) e = absurd (false≢true e)
connect_is (calls.Ftruncate d n) e = absurd (false≢true e)
connect_is (calls.Close d) e = absurd (false≢true e)
connect_is (calls.Truncate t n) e = absurd (false≢true e)
connect_is (calls.ReadDir t) e = absurd (false≢true e)
connect_is (calls.Stat t) e = absurd (false≢true e)
connect_is (calls.Exec t) e = absurd (false≢true e)
connect_is (calls.Unlink t) e = absurd (false≢true e)
connect_is (calls.Rmdir t) e = absurd (false≢true e)
connect_is (calls.Rename o n) e = absurd (false≢true e)
connect_is (calls.RenameNoreplace o n) e = absurd (false≢true e)
connect_is (calls.Exchange o n) e = absurd (false≢true e)
connect_is (calls.Link o n) e = absurd (false≢true e)
connect_is (calls.Ruleset r) e = absurd (false≢true e)
connect_is (calls.Allow n t r) e = absurd (false≢true e)
connect_is (calls.Confine n) e = absurd (false≢true e)
connect_is calls.Spawn e = absurd (false≢true e)

caller_there : (s : State) (e : Entry) → MayStand s e → has (after s e).clients e.client ≡ true
caller_there s e may = by (is_connect e.call) refl
  where
    by : (b : Bool) → is_connect e.call ≡ b → has (after s e).clients e.client ≡ true
    by false is = step-clients_stay s e.client e.call (fresh_of e.reply) e.client (may.caller ∙ ap not is)
    by true is =
        let call : e.call ≡ calls.Connect = connect_is e.call is in
        let done : e.reply ≡ replies.Done = may.connected is in
        let told = sym (may.answered ∙ done) ∙ ap (λ k. (step s e.client k (fresh_of e.reply)).0) call in
        ap (λ k. has (step s e.client k (fresh_of e.reply)).1.clients e.client) call
        ∙ connect_there s e.client (fresh_of e.reply) told

still_there : (s : State) (es : List Entry) (number : ℕ) → has s.clients number ≡ true
    → has (state_after s es).clients number ≡ true
still_there s [] number h = h
still_there s (e ∷ es) number h =
    still_there (after s e) es number (step-clients_stay s e.client e.call (fresh_of e.reply) number h)

no_entry : (s : State) (es : List Entry) (before number : ℕ) → IsLegal s es
    → has (state_after s es).clients number ≡ false → part_from before number es ≡ []
no_entry s [] before number legal out = refl
no_entry s (e ∷ es) before number legal out =
    let apart : e.client ≢ number = λ same. false≢true (sym out
    ∙ still_there (after s e) es number (ap (has (after s e).clients) (sym same) ∙ caller_there s e legal.0)) in
    let rest : List Numbered = part_from (before + 1) number es in
    ap (λ (b : Bool). cond b (numbered (before + 1) e.call e.reply ∷ rest) rest) (ne_eqb e.client number apart)
    ∙ no_entry (after s e) es (before + 1) number legal.1 out

-- ---- and no walk, and no pass

idle_out : (w : World) (number : ℕ) → AreValid w → has (shown w).clients number ≡ false → doing_of w number ≡ None
idle_out w number valid out = by (get w.walks number) refl
  where
    by : (o : Option Walk) → get w.walks number ≡ o → option_map (λ (walk : Walk). walk.call) o ≡ None
    by None e = refl
    by (Some walk) e = absurd (false≢true (sym out ∙ (valid number walk e).0.there))

no_pass : (b : Book) (m : Map nat_cmp Account) (number : ℕ) → AreAccounts b m
    → has (shown b.world).clients number ≡ false → get m (3 * number + 1) ≡ None
no_pass b m number all out = by (get m (3 * number + 1)) refl
  where
    none : (x : Account) → IsAccount b (3 * number + 1) x → ⊥
    none (Slot held) h = let e = h.1 in omega (arith, e)
    none (Client part seen doing) h =
        let same : h.0 ≡ number = (let e = h.1 in omega (arith, e)) in
        false≢true (sym out ∙ ap (has (shown b.world).clients) (sym same) ∙ h.2)
    none (Wants starved) h = let e = h.1 in omega (arith, e)

    by : (o : Option Account) → get m (3 * number + 1) ≡ o → o ≡ None
    by None e = refl
    by (Some x) e = absurd (none x (all (3 * number + 1) x e))

no_wants : (b : Book) (m : Map nat_cmp Account) (number : ℕ) → AreAccounts b m
    → has (shown b.world).clients number ≡ false → get m (3 * number + 2) ≡ None
no_wants b m number all out = by (get m (3 * number + 2)) refl
  where
    none : (x : Account) → IsAccount b (3 * number + 2) x → ⊥
    none (Slot held) h = let e = h.1 in omega (arith, e)
    none (Client part seen doing) h = let e = h.1 in omega (arith, e)
    none (Wants starved) h =
        let same : h.0 ≡ number = (let e = h.1 in omega (arith, e)) in
        false≢true (sym out ∙ ap (has (shown b.world).clients) (sym same) ∙ h.2)

    by : (o : Option Account) → get m (3 * number + 2) ≡ o → o ≡ None
    by None e = refl
    by (Some x) e = absurd (none x (all (3 * number + 2) x e))

next_few : (w : World) → nat_le TREE_CLIENTS (len (shown w).clients) ≡ false → next_number w ≤ TREE_CLIENTS
next_few w few = let lt = leb-false TREE_CLIENTS (len (shown w).clients) few in omega (arith, lt)

-- ---- by a connect

pub record Joins (b b' : Book) (number : ℕ) (m : Map nat_cmp Account) : Type 0 where
  pub steps : Steps b b' number
  pub came : HasCome b' number m
  pub part : part_of b'.world number ≡ numbered (length b'.world.history) calls.Connect replies.Done ∷ []
  pub some : 0 < length b'.world.history

pub joins : (slots limit : ℕ) (rules : Rules) (b b' : Book) (number : ℕ) (m : Map nat_cmp Account)
    → IsDesk slots limit rules b m
    → advance b.world Join ≡ (world.Joined number, b'.world) → Joins b b' number m
joins slots limit rules b b' number m d is =
    let w : World = b.world in
    let v : World = b'.world in
    let g = subst (Went w Join) is (went w Join) in
    let next : number ≡ next_number w = g.1 in
    let out : has (shown w).clients number ≡ false =
    ap (has (shown w).clients) next ∙ unused (shown w) d.sound.numbers in
    let e : Entry = entry_of number calls.Connect replies.Done in
    let more : length v.history ≡ length w.history + 1 = ap length g.3.came ∙ length-append w.history (e ∷ []) in
    record {
      steps = subst (Steps b b') (sym next)
          (stepped b b' Join (world.Joined number) (λ n f. refl) d.sound d.within is);
      came = record {
        there = ap (λ (s : State). has s.clients number)
            (shown_one w v number number (doing_of w number) calls.Connect replies.Done g.2 g.3)
            ∙ connect_there (shown w) number (next_number w) g.2;
        few = subst (λ n. n ≤ TREE_CLIENTS) (sym next)
            (next_few w (connect_few (shown w) number (next_number w) g.2));
        idle = g.3.mine ∙ idle_out w number d.sound.valid out;
        free = no_pass b m number d.accounts out;
        sated = no_wants b m number d.accounts out;
      };
      part = ap (part_from 0 number) g.3.came ∙ part_mine w.history e
          ∙ (λ i. no_entry (start w.rules w.room) w.history 0 number d.sound.legal out i
          ++ numbered (sym more i) calls.Connect replies.Done ∷ []);
      some = omega (arith, more);
    }

-- ---- as a child

-- what an idle client's spawn is answered
spawn_told : (s : State) (number fresh : ℕ) → has s.clients number ≡ true
    → ((step s number calls.Spawn fresh).0 ≡ replies.Refused EMFILE)
    ⊎ (((step s number calls.Spawn fresh).0 ≡ replies.Spawned fresh) × (nat_le TREE_CLIENTS (len s.clients) ≡ false))
spawn_told s number fresh there = of (get s.clients number) refl there
  where
    by : (c : ClientRecord) → get s.clients number ≡ Some c → (b : Bool) → nat_le TREE_CLIENTS (len s.clients) ≡ b
        → ((step s number calls.Spawn fresh).0 ≡ replies.Refused EMFILE)
        ⊎ (((step s number calls.Spawn fresh).0 ≡ replies.Spawned fresh)
        × (nat_le TREE_CLIENTS (len s.clients) ≡ false))
    by c is true e = inl (ap (λ (p : Reply × State). p.0) (spawn_refused s number fresh c is e))
    by c is false e = inr (ap (λ (p : Reply × State). p.0) (spawned s number fresh c is e), e)

    of : (o : Option ClientRecord) → get s.clients number ≡ o → is_some o ≡ true
        → ((step s number calls.Spawn fresh).0 ≡ replies.Refused EMFILE)
        ⊎ (((step s number calls.Spawn fresh).0 ≡ replies.Spawned fresh)
        × (nat_le TREE_CLIENTS (len s.clients) ≡ false))
    of None is h = absurd (false≢true h)
    of (Some c) is h = by c is (nat_le TREE_CLIENTS (len s.clients)) refl

-- the step's entry is the spawn's
spawn_grown : (w v : World) (c : ℕ) (reply : Reply) → is_full w ≡ false
    → Went w (ClientStep c calls.Spawn) (world.Replied reply, v)
    → (reply ≡ reply_to w c calls.Spawn) × Grown w v c None (entry_of c calls.Spawn reply ∷ [])
spawn_grown w v c reply room (inl g) = absurd (cc (sym g.0 ∙ room))
spawn_grown w v c reply room (inr (inl g)) = absurd (cc g.0)
spawn_grown w v c reply room (inr (inr g)) =
    let same : g.1 ≡ calls.Spawn = same_Some g.1 calls.Spawn (sym g.2) in (
      g.3 ∙ ap (reply_to w c) same,
      subst (λ (k : Call). Grown w v c None (entry_of c k reply ∷ [])) same g.4,
    )

-- a step that is enabled was made
was_made : (w v : World) (b : Bool) (reply : Reply) → b ≡ true
    → ◌≡◌ {A = Outcome × World} (unwrap_or (cond b (Some (world.Replied reply, v)) None) (world.NotNow, w))
    (world.NotNow, w) → ⊥
was_made w v true reply e h = cc (ap (λ (p : Outcome × World). p.0) h)
was_made w v false reply e h = false≢true e

-- What an idle client's spawn came to: a child's number, or none
spawn_is : (b b' : Book) (c : ℕ) (r : Result Made Call) → has (shown b.world).clients c ≡ true
    → doing_of b.world c ≡ None → IfOk r (λ a. Answers b (ClientStep c calls.Spawn) a b')
    → OnErr r (advance b.world (ClientStep c calls.Spawn) ≡ (world.NotNow, b.world))
    → (a : Made) × (r ≡ Ok a) × (spawn_made (child_of r) ≡ a)
spawn_is b b' c (Ok made.HistoryFull) there idle does not_now = (made.HistoryFull, refl, refl)
spawn_is b b' c (Ok made.NoMemory) there idle does not_now = (made.NoMemory, refl, refl)
spawn_is b b' c (Ok (made.Replied reply)) there idle does not_now =
    let w : World = b.world in
    let step' : Step = ClientStep c calls.Spawn in
    let told = (spawn_grown w b'.world c reply does.0 (subst (Went w step') does.1 (went w step'))).0 in (
      made.Replied reply,
      refl,
      elim (spawn_told (shown w) c (next_number w) there) [
        | inl none ↦ same reply (replies.Refused EMFILE) (told ∙ none) refl
        | inr some ↦ same reply (replies.Spawned (next_number w)) (told ∙ some.0) refl
      ],
    )
  where
    same : (reply it : Reply) → reply ≡ it → spawn_made (child_told it) ≡ made.Replied it
        → spawn_made (child_told reply) ≡ made.Replied reply
    same reply it e is = subst (λ (x : Reply). spawn_made (child_told x) ≡ made.Replied x) (sym e) is
spawn_is b b' c (Err back) there idle does not_now = absurd (of (get b.world.walks c) refl idle)
  where
    of : (o : Option Walk) → get b.world.walks c ≡ o → option_map (λ (walk : Walk). walk.call) o ≡ None → ⊥
    of (Some walk) is h = cc h
    of None is h = was_made b.world (answered b.world c calls.Spawn).1
        (is_idle b.world c && is_alone (client_of (shown b.world) c) calls.Spawn) (answered b.world c calls.Spawn).0
        (λ i. (there i && not (is_some (is i))) && is_alone (client_of (shown b.world) c) calls.Spawn) not_now

-- so what is known of it is known of the child's number, or of why there is none
pub spawn_gives : (b b' : Book) (c : ℕ) (r : Result Made Call) (told : Result ℕ Errno)
    → has (shown b.world).clients c ≡ true
    → doing_of b.world c ≡ None → IfOk r (λ a. Answers b (ClientStep c calls.Spawn) a b')
    → OnErr r (advance b.world (ClientStep c calls.Spawn) ≡ (world.NotNow, b.world)) → told ≡ child_of r
    → (P : Made → Type 0) → IfOk r P → P (spawn_made told)
spawn_gives b b' c r told there idle does not_now is P h =
    let s = spawn_is b b' c r there idle does not_now in
    subst (λ (x : Result ℕ Errno). P (spawn_made x)) (sym is)
    (subst P (sym s.2) (subst (λ (x : Result Made Call). IfOk x P) s.1 h))

-- its parent is idle still
pub spawn_idle : (b b' : Book) (c : ℕ) (r : Result Made Call) → doing_of b.world c ≡ None
    → IfOk r (λ a. Answers b (ClientStep c calls.Spawn) a b') → OnErr r (b' ≡ b) → doing_of b'.world c ≡ None
spawn_idle b b' c (Ok (made.Replied reply)) idle does same =
    (spawn_grown b.world b'.world c reply does.0
    (subst (Went b.world (ClientStep c calls.Spawn)) does.1 (went b.world (ClientStep c calls.Spawn)))).1.mine
spawn_idle b b' c (Ok made.HistoryFull) idle does same = ap (λ (x : Book). doing_of x.world c) does.1 ∙ idle
spawn_idle b b' c (Ok made.NoMemory) idle does same = ap (λ (x : Book). doing_of x.world c) does.0 ∙ idle
spawn_idle b b' c (Err back) idle does same = ap (λ (x : Book). doing_of x.world c) same ∙ idle

-- where there is a child, its parent knows of all entries
pub seen_child : (r : Result Made Call) (seen entries number : ℕ) → child_of r ≡ Ok number
    → seen_made r seen entries ≡ entries
seen_child (Ok answer) seen entries number e = refl
seen_child (Err back) seen entries number e = absurd (cc e)

-- what is known of a child
pub record Bears (b b' : Book) (c number : ℕ) (m : Map nat_cmp Account) : Type 0 where
  pub apart : number ≢ c
  pub came : HasCome b' number m
  pub part : part_of b'.world number ≡ []

pub bears : (slots limit : ℕ) (rules : Rules) (b b' : Book) (c number : ℕ) (m n : Map nat_cmp Account)
    → IsDesk slots limit rules b m
    → AreAccounts b n
    → has (shown b.world).clients c ≡ true
    → Answers b (ClientStep c calls.Spawn) (made.Replied (replies.Spawned number)) b'
    → Bears b b' c number n
bears slots limit rules b b' c number m n d all there does =
    let w : World = b.world in
    let v : World = b'.world in
    let step' : Step = ClientStep c calls.Spawn in
    let g = spawn_grown w v c (replies.Spawned number) does.0 (subst (Went w step') does.1 (went w step')) in
    let made = step-spawned (shown w) c calls.Spawn (next_number w) number (sym g.0) in
    let next : number ≡ next_number w = made.0 in
    let out : has (shown w).clients number ≡ false =
    ap (has (shown w).clients) next ∙ unused (shown w) d.sound.numbers in
    let apart : number ≢ c = λ same. false≢true (sym out ∙ ap (has (shown w).clients) same ∙ there) in
    let few : nat_le TREE_CLIENTS (len (shown w).clients) ≡ false =
    elim (spawn_told (shown w) c (next_number w) there) [
      | inl none ↦ absurd (cc (g.0 ∙ none))
      | inr some ↦ some.1
    ] in
    record {
      apart = apart;
      came = record {
        there = ap (λ (s : State). has s.clients number)
            (shown_one w v c c None calls.Spawn (replies.Spawned number) g.0 g.1) ∙ made.1;
        few = subst (λ k. k ≤ TREE_CLIENTS) (sym next) (next_few w few);
        idle = g.1.others number apart ∙ idle_out w number d.sound.valid out;
        free = no_pass b n number all out;
        sated = no_wants b n number all out;
      };
      part = ap (part_from 0 number) g.1.came
          ∙ part_other w.history (entry_of c calls.Spawn (replies.Spawned number)) number (λ same. apart (sym same))
          ∙ no_entry (start w.rules w.room) w.history 0 number d.sound.legal out;
    }

-- ---- why none comes

-- a connect is refused only where there are too many clients
connect_told : (w : World) (reply : Reply) → reply ≡ reply_to w (next_number w) calls.Connect
    → (reply ≡ replies.Refused EMFILE) ⊎ (reply ≡ replies.Done)
connect_told w reply is = by (nat_le TREE_CLIENTS (len (shown w).clients)) refl
  where
    by : (b : Bool) → nat_le TREE_CLIENTS (len (shown w).clients) ≡ b
        → (reply ≡ replies.Refused EMFILE) ⊎ (reply ≡ replies.Done)
    by true e = inl (is ∙ ap (λ (p : Reply × State). p.0)
        (connect_refused (shown w) (next_number w) (next_number w) e))
    by false e = inr (is ∙ ap (λ (p : Reply × State). p.0)
        (connect_done (shown w) (next_number w) (next_number w) e))

-- as it is answered in a history that is full, or isn't
abbrev as_answered : World → Bool → Reply × World
as_answered w full = cond full (replies.Refused HistoryFull, w) (
  reply_to w (next_number w) calls.Connect,
  with_entry w (next_number w) calls.Connect (reply_to w (next_number w) calls.Connect),
)

abbrev joined_as : World → Bool → Outcome
joined_as w full = (world.joined w (as_answered w full).0 (as_answered w full).1).0

-- what a connect comes to where it brings nobody
join_refused : (w : World) (errno : Errno) → advance w Join ≡ (world.Replied (replies.Refused errno), w)
    → HasNoPlace errno
join_refused w errno is = by (is_full w) refl
  where
    said : (full : Bool) → is_full w ≡ full → joined_as w full ≡ world.Replied (replies.Refused errno)
    said full e = ap (joined_as w) (sym e) ∙ ap (λ (p : Outcome × World). p.0) is

    by : (full : Bool) → is_full w ≡ full → HasNoPlace errno
    by true e = inr (inl (let told = said true e in cc told))
    by false e = elim (connect_told w (reply_to w (next_number w) calls.Connect) refl) [
      | inl none ↦
          inl (let told = sym (ap (λ (r : Reply). (world.joined w r (as_answered w false).1).0) none) ∙ said false e
          in cc told)
      | inr some ↦
          absurd (cc (sym (ap (λ (r : Reply). (world.joined w r (as_answered w false).1).0) some) ∙ said false e))
    ]

is_no_memory : (errno : Errno) → (errno ≡ NoMemory) ⊎ (errno ≢ NoMemory)
is_no_memory errnos.EACCES = inr (λ e. cc e)
is_no_memory errnos.EXDEV = inr (λ e. cc e)
is_no_memory errnos.ENOENT = inr (λ e. cc e)
is_no_memory errnos.EEXIST = inr (λ e. cc e)
is_no_memory errnos.ENOTDIR = inr (λ e. cc e)
is_no_memory errnos.EISDIR = inr (λ e. cc e)
is_no_memory errnos.ENOTEMPTY = inr (λ e. cc e)
is_no_memory errnos.EINVAL = inr (λ e. cc e)
is_no_memory errnos.EPERM = inr (λ e. cc e)
is_no_memory errnos.EBUSY = inr (λ e. cc e)
is_no_memory errnos.EBADF = inr (λ e. cc e)
is_no_memory errnos.EMFILE = inr (λ e. cc e)
is_no_memory errnos.ENOSPC = inr (λ e. cc e)
is_no_memory errnos.EMLINK = inr (λ e. cc e)
is_no_memory errnos.ENAMETOOLONG = inr (λ e. cc e)
is_no_memory errnos.EFBIG = inr (λ e. cc e)
is_no_memory errnos.ELOOP = inr (λ e. cc e)
is_no_memory errnos.ENXIO = inr (λ e. cc e)
is_no_memory errnos.E2BIG = inr (λ e. cc e)
is_no_memory errnos.ENOMSG = inr (λ e. cc e)
is_no_memory errnos.HistoryFull = inr (λ e. cc e)
is_no_memory errnos.NoMemory = inl refl
is_no_memory errnos.BadLine = inr (λ e. cc e)
is_no_memory errnos.Stale = inr (λ e. cc e)

pub connect_errors : (w : World) (errno : Errno)
    → (errno ≢ NoMemory → advance w Join ≡ (world.Replied (replies.Refused errno), w)) → HasNoPlace errno
connect_errors w errno refused = elim (is_no_memory errno) [
  | inl none ↦ inr (inr none)
  | inr other ↦ join_refused w errno (refused other)
]

-- where a spawn of an idle client brings none
childless_for : (b b' : Book) (c : ℕ) (r : Result Made Call) → has (shown b.world).clients c ≡ true
    → IfOk r (λ a. Answers b (ClientStep c calls.Spawn) a b') → IfErr (child_of r) HasNoPlace
childless_for b b' c (Ok made.HistoryFull) there does = inr (inl refl)
childless_for b b' c (Ok made.NoMemory) there does = inr (inr refl)
childless_for b b' c (Err back) there does = inl refl
childless_for b b' c (Ok (made.Replied reply)) there does =
    let w : World = b.world in
    let s : Step = ClientStep c calls.Spawn in
    let told = (spawn_grown w b'.world c reply does.0 (subst (Went w s) does.1 (went w s))).0 in
    elim (spawn_told (shown w) c (next_number w) there) [
      | inl none ↦
          subst (λ (x : Reply). IfErr (child_told x) HasNoPlace) (sym (told ∙ none)) (inl refl)
      | inr some ↦ subst (λ (x : Reply). IfErr (child_told x) HasNoPlace) (sym (told ∙ some.0)) tt
    ]

-- ---- what it knows then

pub connected : (b : Book) (number seen : ℕ) (k : Knows)
    → part_of b.world number ≡ numbered (length b.world.history) calls.Connect replies.Done ∷ []
    → seen ≡ length b.world.history → k ≡ knows number (part_of b.world number) [] seen None
    → k ≡ knows k.number (numbered k.seen calls.Connect replies.Done ∷ []) [] k.seen None
connected b number seen k part long is =
    subst (λ (x : Knows). x ≡ knows x.number (numbered x.seen calls.Connect replies.Done ∷ []) [] x.seen None) (sym is)
    (ap (λ (p : List Numbered). knows number p [] seen None)
    (part ∙ ap (λ n. numbered n calls.Connect replies.Done ∷ []) (sym long)))

-- ---- the act: what is known of a spawn of an idle client, whose pass was taken back

pub record Spawning
    (slots limit : ℕ) (rules : Rules) (b b' : Book) (c : ℕ) (m n : Map nat_cmp Account) (r : Result Made Call)
    (told : Result ℕ Errno) : Type 0 where
  pub desk : IsDesk slots limit rules b m
  pub out : AreAccounts b n
  pub there : has (shown b.world).clients c ≡ true
  pub idle : doing_of b.world c ≡ None
  pub does : IfOk r (λ a. Answers b (ClientStep c calls.Spawn) a b')
  pub not_now : OnErr r (advance b.world (ClientStep c calls.Spawn) ≡ (world.NotNow, b.world))
  pub same : OnErr r (b' ≡ b)
  pub is : told ≡ child_of r

module _ (slots limit : ℕ) (rules : Rules) (b b' : Book) (c : ℕ) (m n : Map nat_cmp Account) (r : Result Made Call)
    (told : Result ℕ Errno) (s : Spawning slots limit rules b b' c m n r told) where
  direct : IsDirect b.world c calls.Spawn (ClientStep c calls.Spawn)
  direct = record { mine = refl; asks = refl; idle = refl; other = λ e. cc e }

  pub spawn_steps : Steps b b' c
  spawn_steps = direct_steps b b' c calls.Spawn (ClientStep c calls.Spawn) r direct s.desk.sound s.desk.within s.does
      s.same

  pub spawn_answers : Answers b (ClientStep c calls.Spawn) (spawn_made told) b'
  spawn_answers = spawn_gives b b' c r told s.there s.idle s.does s.not_now s.is
      (λ a. Answers b (ClientStep c calls.Spawn) a b') s.does

  pub spawn_gains : (seen : ℕ) (part : List Numbered) (starved : List Starved) (doing : Option Call)
      → IsClient b c part seen doing
      → Gains limit calls.Spawn (knows c part starved seen doing) (spawn_made told)
      (knows c (part_of b'.world c)
      (starved_if (starves_made r) starved (length b.world.history) (Some calls.Spawn))
      (seen_made r seen (length b'.world.history)) (doing_of b'.world c))
  spawn_gains seen part starved doing k = spawn_gives b b' c r told s.there s.idle s.does s.not_now s.is
      (λ a. Gains limit calls.Spawn (knows c part starved seen doing) a
      (knows c (part_of b'.world c)
      (starved_if (starves_made r) starved (length b.world.history) (Some calls.Spawn))
      (seen_made r seen (length b'.world.history)) (doing_of b'.world c)))
      (direct_gains b b' c seen limit part starved doing calls.Spawn (ClientStep c calls.Spawn) r direct s.desk.within
      s.desk.limit_is k s.does)

  -- why there is no child
  pub spawn_errors : IfErr told HasNoPlace
  spawn_errors = subst (λ (x : Result ℕ Errno). IfErr x HasNoPlace) (sym s.is)
      (childless_for b b' c r s.there s.does)

  pub still_idle : doing_of b'.world c ≡ None
  still_idle = spawn_idle b b' c r s.idle s.does s.same

  pub child_bears : (number : ℕ) → told ≡ Ok number → Bears b b' c number n
  child_bears number own = bears slots limit rules b b' c number m n s.desk s.out s.there
      (subst (λ (x : Result ℕ Errno). Answers b (ClientStep c calls.Spawn) (spawn_made x) b') own spawn_answers)

  pub not_own : told ≢ Ok c
  not_own own = (child_bears c own).apart refl

  come : (x : Result ℕ Errno) → told ≡ x → IfOk x (λ number. HasCome b' number n)
  come (Ok number) e = (child_bears number e).came
  come (Err errno) e = tt

  pub told_come : IfOk told (λ number. HasCome b' number n)
  told_come = come told refl

-- of what came of it
module _ {A E : Type 0} where
  pub if_ok : (r : Result A E) (P Q : A → Type 0) → ((x : A) → P x → Q x) → IfOk r P → IfOk r Q
  if_ok (Ok x) P Q f h = f x h
  if_ok (Err e) P Q f h = tt

  pub if_err : (r : Result A E) (P Q : E → Type 0) → ((e : E) → P e → Q e) → IfErr r P → IfErr r Q
  if_err (Ok x) P Q f h = tt
  if_err (Err e) P Q f h = f e h

  pub if_both : (r : Result A E) (P Q R : A → Type 0) → ((x : A) → P x → Q x → R x) → IfOk r P → IfOk r Q → IfOk r R
  if_both (Ok x) P Q R f h k = f x h k
  if_both (Err e) P Q R f h k = tt

-- ---- refused since the history is full

abbrev reply_in : world.Outcome → Reply
reply_in (world.Replied reply) = reply
reply_in it = replies.Done

told_as : (w next : World) (reply told : Reply) → joined w reply next ≡ (world.Replied told, w) → reply ≡ told
told_as w next replies.Done told e = ap (λ (p : world.Outcome × World). reply_in p.0) e
told_as w next reply told e = ap (λ (p : world.Outcome × World). reply_in p.0) e

pub full_join : (w : World) → advance w Join ≡ (world.Replied (replies.Refused HistoryFull), w) → is_full w ≡ true
full_join w = by (is_full w) refl
  where
    answer : Bool → Reply × World
    answer b =
        let reply = reply_to w (next_number w) calls.Connect in
        if b then (replies.Refused HistoryFull, w)
        else (reply, record w { history = w.history ++ entry_of (next_number w) calls.Connect reply ∷ [] })

    by : (b : Bool) → is_full w ≡ b
        → joined w (answer b).0 (answer b).1 ≡ (world.Replied (replies.Refused HistoryFull), w) → is_full w ≡ true
    by true e f = e
    by false e f =
        let same = told_as w _ _ (replies.Refused HistoryFull) f in
        absurd (never_full (shown w) (next_number w) calls.Connect (next_number w) (sym same))

-- so all entries that it may have are there
pub full_length : (w : World) → length w.history ≤ w.limit
    → advance w Join ≡ (world.Replied (replies.Refused HistoryFull), w) → length w.history ≡ w.limit
full_length w fits is =
    let low : w.limit ≤ length w.history = leb-true w.limit (length w.history) (full_join w is) in
    omega (arith, low, fits)

-- a client after which another one came or didn't come only learns of entries
pub raised : {C : Type 0} (limit : ℕ) (told : Result C Errno) (k k' : Knows) → k' ≡ knows_full limit told k
    → k' ≡ record k { seen = k'.seen }
raised limit told k k' = by (is_at_full told)
  where
    by : (b : Bool) → k' ≡ (if b then record k { seen = limit } else k) → k' ≡ record k { seen = k'.seen }
    by true e = e ∙ ap (λ (x : Knows). record k { seen = x.seen }) (sym e)
    by false e = e ∙ ap (λ (x : Knows). record k { seen = x.seen }) (sym e)

pub unraised : {C : Type 0} (limit : ℕ) (told : Result C Errno) (k k' : Knows) → is_at_full told ≡ false
    → k' ≡ knows_full limit told k → k' ≡ k
unraised limit told k k' room e = e ∙ ap (λ b. if b then record k { seen = limit } else k) room

pub full_told : {C : Type 0} (told : Result C Errno) (b b' : Book) (limit : ℕ) → is_at_full told ≡ true
    → IfErr told (λ errno. errno ≢ NoMemory → advance b.world Join ≡ (world.Replied (replies.Refused errno), b.world))
    → OnErr told (b' ≡ b) → length b'.world.history ≤ b'.world.limit → b'.world.limit ≡ limit
    → length b'.world.history ≡ limit
full_told (Err HistoryFull) b b' limit full refused same fits is =
    let there = subst (λ (x : Book). length x.world.history ≤ x.world.limit) same fits in
    subst (λ (x : Book). length x.world.history ≡ x.world.limit) (sym same)
    (full_length b.world there (refused (λ e. cc e))) ∙ is
full_told told b b' limit full refused same fits is = absurd (false≢true full)

pub knew_full : {C : Type 0} (limit n : ℕ) (told : Result C Errno) (k mid k' : Knows) → is_at_full told ≡ true
    → mid ≡ k → k' ≡ record mid { seen = n } → n ≡ limit → k' ≡ knows_full limit told k
knew_full limit n told k mid k' full same e all =
    e ∙ (λ i. record (same i) { seen = all i }) ∙ ap (λ b. if b then record k { seen = limit } else k) (sym full)

pub knew_room : {C : Type 0} (limit : ℕ) (told : Result C Errno) (k k' : Knows) → is_at_full told ≡ false → k' ≡ k
    → k' ≡ knows_full limit told k
knew_room limit told k k' room e = e ∙ ap (λ b. if b then record k { seen = limit } else k) (sym room)
