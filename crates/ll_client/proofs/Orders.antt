-- Clients have their numbers in the order in which they come, at each point of the history.
use Rattle.std.specs.Prelude.{◌≡◌, ◌≢◌, ◌⊎◌, ℕ, zero, suc, ◌+◌, ◌≤◌, Bool, true, false, ◌&&◌, not, List, [], ◌∷◌, ◌++◌}
use Rattle.std.specs.Prelude.{Option, Some, None, is_some, option_map, unwrap_or, if◌then◌else◌, refl}
use Rattle.std.specs.Ordering.{nat_cmp}
use Rattle.std.proofs.Common.{sym, subst, ap, ◌∙◌, inl, inr, arith}
use Rattle.std.proofs.lemmas.List.{append-nil}
use Rattle.ll_rights.specs.Map.{get, has, len}
use Rattle.ll_rights.proofs.Maps.{get-empty}
use Rattle.ll_seq.specs.declared.call.Call.{Call}
use Rattle.ll_seq.specs.declared.client.ClientRecord.{ClientRecord}
use Rattle.ll_seq.specs.declared.reply.Entry.{Entry}
use Rattle.ll_seq.specs.declared.reply.Reply.{Reply}
use Rattle.ll_seq.specs.declared.reply.Reply.TheVariants as replies
use Rattle.ll_seq.specs.declared.rules.Rules.{Rules}
use Rattle.ll_seq.specs.History.{state_after}
use Rattle.ll_seq.specs.State.{State, start}
use Rattle.ll_seq.specs.Step.{client_of, step}
use Rattle.ll_laws.specs.declared.step.Step.{Step}
use Rattle.ll_laws.specs.declared.step.Step.TheVariants as steps
use Rattle.ll_laws.specs.Sound.{AreNumbered}
use Rattle.ll_laws.specs.Walk.{Walk}
use Rattle.ll_laws.specs.Walks.{AreValid}
use Rattle.ll_laws.specs.World as world
use Rattle.ll_laws.specs.World.{World, Outcome, advance, answered, is_alone, is_on_descriptor, next_number, reply_to}
use Rattle.ll_laws.specs.World.{shown}
use Rattle.ll_laws.proofs.OneCall.{other_client, step_clients}
use Rattle.ll_laws.proofs.StepGrowth.{Grown, Went, asked, client_in, doing_of, entry_of}
use Rattle.ll_client.specs.Entries.{AreInOrder}
use Rattle.ll_client.proofs.Walked.{shown_one}

abbrev pub InOrder : World → Type 0
InOrder w = AreInOrder w.rules w.room w.history

-- ---- no client comes with number 0

first_ones : (s : State) (n : ℕ) (call : Call) → 1 ≤ n → ((c : ℕ) → has s.clients c ≡ true → 1 ≤ c) → (c : ℕ)
    → has (step s n call (len s.clients + 1)).1.clients c ≡ true → 1 ≤ c
first_ones s n call some low zero there =
    let fresh = len s.clients + 1 in
    let same = other_client s (step s n call fresh).1 n fresh (step_clients s n call fresh) 0
    (λ e. omega (arith, e, some))
    (λ e. omega (arith, e)) in
    low 0 (ap is_some (sym same) ∙ there)
first_ones s n call some low (suc c) there = omega arith

-- ---- a history that is one entry longer

-- a beginning of it is all of it, or one of what was there before
cut_last : (es : List Entry) (e : Entry) (early late : List Entry) → es ++ e ∷ [] ≡ early ++ late
    → (early ≡ es ++ e ∷ []) ⊎ ((rest : List Entry) × (es ≡ early ++ rest))
cut_last es e [] late is = inr (es, refl)
cut_last [] e (x ∷ early) late is = inl (λ i. alone early late (tails is) i)
  where
    tails : e ∷ [] ≡ x ∷ (early ++ late) → (e ≡ x) × ([] ≡ early ++ late)
    tails same = (cc same, cc same)

    alone : (early late : List Entry) → (e ≡ x) × ([] ≡ early ++ late) → x ∷ early ≡ e ∷ []
    alone [] late h = ap (λ y. y ∷ []) (sym h.0)
    alone (y ∷ ys) late h = absurd (cc h.1)
cut_last (y ∷ es) e (x ∷ early) late is = by (cut_last es e early late (tails is).1)
  where
    tails : y ∷ (es ++ e ∷ []) ≡ x ∷ (early ++ late) → (y ≡ x) × (es ++ e ∷ [] ≡ early ++ late)
    tails same = (cc same, cc same)

    by : (early ≡ es ++ e ∷ []) ⊎ ((rest : List Entry) × (es ≡ early ++ rest))
        → (x ∷ early ≡ y ∷ es ++ e ∷ []) ⊎ ((rest : List Entry) × (y ∷ es ≡ x ∷ early ++ rest))
    by (inl whole) = inl (λ i. sym (tails is).0 i ∷ whole i)
    by (inr part) = inr (part.0, (λ i. (tails is).0 i ∷ part.1 i))

-- by a step whose caller has a number
in_order_one : (w v : World) (c n : ℕ) (doing : Option Call) (call : Call) (reply : Reply) → (InOrder w → 1 ≤ n)
    → reply ≡ reply_to w n call → Grown w v c doing (entry_of n call reply ∷ []) → AreNumbered (shown v) → InOrder w
    → InOrder v
in_order_one w v c n doing call reply low is g numbers order =
    subst (λ (p : Rules × (ℕ × List Entry)). AreInOrder p.0 p.1.0 p.1.1)
    (λ i. (sym g.rules i, (sym g.room i, sym g.came i))) longer
  where
    e : Entry
    e = entry_of n call reply

    last : State
    last = state_after (start w.rules w.room) (w.history ++ e ∷ [])

    same : shown v ≡ last
    same = λ i. state_after (start (g.rules i) (g.room i)) (g.came i)

    before : (d : ℕ) → has (shown w).clients d ≡ true → 1 ≤ d
    before d there = (order w.history [] (sym (append-nil w.history)) d there).0

    at_last : (d : ℕ) → has last.clients d ≡ true → (1 ≤ d) × (d ≤ len last.clients)
    at_last d there = (
      first_ones (shown w) n call (low order) before d
          (ap (λ (s : State). has s.clients d) (sym (shown_one w v c n doing call reply is g) ∙ same) ∙ there),
      subst AreNumbered same numbers d there,
    )

    longer : AreInOrder w.rules w.room (w.history ++ e ∷ [])
    longer early late cut d there = by (cut_last w.history e early late cut)
      where
        by : (early ≡ w.history ++ e ∷ []) ⊎ ((rest : List Entry) × (w.history ≡ early ++ rest))
            → (1 ≤ d) × (d ≤ len (state_after (start w.rules w.room) early).clients)
        by (inr part) = order early part.0 part.1 d there
        by (inl whole) =
            subst (λ (es : List Entry). (1 ≤ d) × (d ≤ len (state_after (start w.rules w.room) es).clients)) (sym whole)
            (at_last d (ap (λ (es : List Entry). has (state_after (start w.rules w.room) es).clients d) (sym whole)
            ∙ there))

in_order_same : (w v : World) → v.rules ≡ w.rules → v.room ≡ w.room → v.history ≡ w.history → InOrder w → InOrder v
in_order_same w v rules room history =
    subst (λ (p : Rules × (ℕ × List Entry)). AreInOrder p.0 p.1.0 p.1.1)
    (λ i. (sym rules i, (sym room i, sym history i)))

in_order_none : (w v : World) (c : ℕ) (doing : Option Call) → Grown w v c doing [] → InOrder w → InOrder v
in_order_none w v c doing g = in_order_same w v g.rules g.room (g.came ∙ append-nil w.history)

in_order_still : (w v : World) → v ≡ w → InOrder w → InOrder v
in_order_still w v e = subst InOrder (sym e)

-- ---- who calls is there

was_there : (w v : World) (reply : Reply) (x : Outcome × World) (there free allowed : Bool)
    → unwrap_or (if (there && free) && allowed then Some x else None) (world.NotNow, w) ≡ (world.Replied reply, v)
    → there ≡ true
was_there w v reply x true free allowed e = refl
was_there w v reply x false free allowed e = absurd (cc (ap (λ (p : Outcome × World). p.0) e))

walks_there : (w : World) (c : ℕ) (call : Call) → AreValid w → doing_of w c ≡ Some call
    → has (shown w).clients c ≡ true
walks_there w c call valid does = by (get w.walks c) refl does
  where
    by : (o : Option Walk) → get w.walks c ≡ o → option_map (λ (walk : Walk). walk.call) o ≡ Some call
        → has (shown w).clients c ≡ true
    by None e f = absurd (cc f)
    by (Some walk) e f = (valid c walk e).0.there

caller_there : (w v : World) (s : Step) (call : Call) (reply : Reply) → AreValid w
    → advance w s ≡ (world.Replied reply, v) → asked w s ≡ Some call → s ≢ steps.Join
    → has (shown w).clients (client_in w s) ≡ true
caller_there w v steps.Join call reply valid e asks other = absurd (other refl)
caller_there w v (steps.Begin c k) call reply valid e asks other = absurd (cc asks)
caller_there w v (steps.Descend c) call reply valid e asks other = absurd (cc asks)
caller_there w v (steps.Fork c) call reply valid e asks other = absurd (cc asks)
caller_there w v (steps.Restart c) call reply valid e asks other = absurd (cc asks)
caller_there w v (steps.Commit c) call reply valid e asks other = walks_there w c call valid asks
caller_there w v (steps.FdCommit c k) call reply valid e asks other =
    let told = answered w c k in
    was_there w v reply (world.Replied told.0, told.1) (has (shown w).clients c) (not (has w.walks c))
    (is_on_descriptor (client_of (shown w) c) k) e
caller_there w v (steps.ClientStep c k) call reply valid e asks other =
    let told = answered w c k in
    was_there w v reply (world.Replied told.0, told.1) (has (shown w).clients c) (not (has w.walks c))
    (is_alone (client_of (shown w) c) k) e

-- ---- each step

-- only a connect brings somebody who wasn't there
abbrev pub OnlyJoins : Step → Outcome → Type 0
OnlyJoins s p = (number : ℕ) → p ≡ world.Joined number → s ≡ steps.Join

pub in_order_after : (w : World) (s : Step) (p : Outcome) (v : World) → AreValid w → OnlyJoins s p
    → advance w s ≡ (p, v) → Went w s (p, v) → AreNumbered (shown v) → InOrder w → InOrder v
in_order_after w s world.NotNow v valid only e g numbers = in_order_still w v g
in_order_after w s world.Begun v valid only e g numbers = in_order_none w v _ _ g
in_order_after w s (world.Stands inode) v valid only e g numbers = in_order_none w v _ _ g
in_order_after w s world.Forked v valid only e g numbers = in_order_none w v _ _ g
in_order_after w s world.Restarted v valid only e g numbers = in_order_none w v _ _ g
in_order_after w s (world.Replied reply) v valid only e (inl g) numbers = in_order_none w v _ _ g.1
in_order_after w s (world.Replied reply) v valid only e (inr (inl g)) numbers = in_order_still w v g.1
in_order_after w s (world.Replied reply) v valid only e (inr (inr g)) numbers =
    in_order_one w v (client_in w s) (client_in w s) _ g.1 reply
    (λ order. (order w.history [] (sym (append-nil w.history)) (client_in w s)
    (caller_there w v s g.1 reply valid e g.2 g.5)).0) g.3 g.4 numbers
in_order_after w s (world.Joined number) v valid only e g numbers =
    in_order_one w v number number _ _ replies.Done (λ order. some) g.2 g.3 numbers
  where
    next : number ≡ next_number w
    next = g.1 ∙ ap (client_in w) (only number refl)

    some : 1 ≤ number
    some = let n : number ≡ len (shown w).clients + 1 = next in omega (arith, n)

-- ---- a tree without a client

pub none_in_order : (rules : Rules) (room : ℕ) → AreInOrder rules room []
none_in_order rules room [] late cut c there = absurd (cc (sym there ∙ ap is_some (get-empty ClientRecord nat_cmp c)))
none_in_order rules room (x ∷ early) late cut c there = absurd (cc cut)
