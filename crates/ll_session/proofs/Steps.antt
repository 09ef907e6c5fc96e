-- From one point of a session to the next: the history is as long as before, or one entry longer.
use Rattle.std.specs.Prelude.{◌≡◌, ◌≢◌, ◌⊎◌, ℕ, zero, suc, ◌+◌, ◌<◌, ◌≤◌, Bool, true, false, List, [], ◌∷◌, ◌++◌}
use Rattle.std.specs.Prelude.{length, take, Some, slice_get, refl}
use Rattle.std.specs.List.{AllByRecursion}
use Rattle.std.proofs.Common.{sym, ap, subst, ◌∙◌, inl, inr, arith}
use Rattle.std.proofs.lemmas.Bool.{false≢true, cases_lt}
use Rattle.std.proofs.lemmas.List.{length-append, length-take-le}
use Rattle.ll_rights.specs.Map.{has, len}
use Rattle.ll_seq.specs.declared.call.Call.{Call}
use Rattle.ll_seq.specs.declared.reply.Entry.{Entry}
use Rattle.ll_seq.specs.declared.reply.Reply.{Reply}
use Rattle.ll_seq.specs.declared.reply.Reply.TheVariants.{Spawned}
use Rattle.ll_seq.specs.declared.rules.Rules.{Rules}
use Rattle.ll_seq.specs.History.{MayStand, after, fresh_of, is_connect}
use Rattle.ll_seq.specs.Stages.{numbers_from}
use Rattle.ll_seq.specs.State.{State, start}
use Rattle.ll_seq.proofs.Consequences.{step-clients_stay}
use Rattle.ll_session.specs.Between.{IsSettled, between, tree_at}
use Rattle.ll_client.specs.Closed.{IsClosed, numbers_of}
use Rattle.ll_client.specs.Entries.{Knows, numbered}
use Rattle.ll_client.specs.declared.account.Numbered.{Numbered}
use Rattle.ll_session.specs.PartySession.{Called, answered, brought, next}
use Rattle.ll_session.specs.Growth.{Grows}
use Rattle.ll_session.specs.Talk.{seen_by}
use Rattle.ll_session.proofs.Closings.{covered, numbers_at, part_tells}
use Rattle.ll_session.proofs.Comers.{same_many}
use Rattle.ll_session.proofs.Entered.{AreBelow, IsAmong, IsEntered, entered_below}
use Rattle.ll_session.proofs.KeptParts.{IsEntry, all_map, all_push, last_of}
use Rattle.ll_session.proofs.Points.{entry_within, may_stand, one_taken, state_next}
use Rattle.ll_session.proofs.Seen.{count_numbers}

-- ---- numbers in a row

pub one_number : (k count : ℕ) → numbers_from k count ++ (k + count) ∷ [] ≡ numbers_from k (suc count)
unfolding numbers_from
one_number k zero = let same : k + 0 ≡ k = omega arith in ap (λ j. j ∷ []) same
one_number k (suc count) = let same : k + suc count ≡ suc k + count = omega arith in
    ap (λ j. k ∷ (numbers_from (suc k) count ++ j ∷ [])) same ∙ ap (λ l. k ∷ l) (one_number (suc k) count)

pub each_number : (P : ℕ → Type 0) (k count n : ℕ) → AllByRecursion P (numbers_from k count) → k ≤ n → n < k + count
    → P n
unfolding numbers_from
each_number P k zero n all le less = absurd (omega arith)
each_number P k (suc count) n all le less = elim (cases_lt k n) [
  | inl lt ↦ each_number P (suc k) count n all.1 lt (omega arith)
  | inr ge ↦ let same : k ≡ n = omega arith in subst P same all.0
]

pub not_there : (b : Bool) → (b ≡ true → ⊥) → b ≡ false
not_there true h = absurd (h refl)
not_there false h = refl

module _ (rules : Rules) (room limit : ℕ) (history : List Entry) (end : List Knows)
    (c : IsClosed rules room limit history end) where
  -- ---- no entry more

  pub no_entry : (ks ks' : List Knows) → AreBelow (seen_by ks) ks' → seen_by ks ≤ seen_by ks' → Grows ks' end
      → seen_by ks' ≡ seen_by ks
  no_entry ks ks' below later g = elim (cases_lt (seen_by ks) (seen_by ks')) [
    | inl lt ↦ let less = entered_below (seen_by ks) ks' (suc (seen_by ks)) below
        (covered rules room limit history end c ks' g (suc (seen_by ks)) (omega arith) lt) in
        absurd (omega arith)
    | inr ge ↦ omega (arith, ge, later)
  ]

  pub still_between : (ks ks' : List Knows) → seen_by ks' ≡ seen_by ks → numbers_of ks' ≡ numbers_of ks
      → between rules room limit history ks' ≡ between rules room limit history ks
  still_between ks ks' seen numbers = λ i. record {
    tree = tree_at rules room history (seen i);
    clients = numbers i;
    entries = take (seen i) history;
    limit = limit;
  }

  pub still_settled : (ks ks' : List Knows) → seen_by ks' ≡ seen_by ks → numbers_of ks' ≡ numbers_of ks
      → AreBelow (seen_by ks) ks' → IsSettled rules room history ks → IsSettled rules room history ks'
  still_settled ks ks' seen numbers below s =
      let count : length ks' ≡ length ks =
      sym (count_numbers ks') ∙ ap length numbers ∙ count_numbers ks in
      let was = s.low in
      record {
        low = omega (arith, was, seen);
        known = subst (λ n. AreBelow n ks') (sym seen) below;
        numbers = numbers ∙ s.numbers ∙ ap (numbers_from 1) (sym count);
        there = subst (λ n. AllByRecursion (λ q. has (tree_at rules room history n).clients q ≡ true) (numbers_of ks'))
            (sym seen)
            (subst (AllByRecursion (λ q. has (tree_at rules room history (seen_by ks)).clients q ≡ true)) (sym numbers)
            s.there);
        count = ap (λ n. len (tree_at rules room history n).clients) seen ∙ s.count ∙ sym count;
      }

  -- ---- one entry more

  -- it is the next one
  pub record Enters (ks ks' : List Knows) (e : Entry) : Type 0 where
    pub seen : seen_by ks' ≡ suc (seen_by ks)
    pub entry : slice_get history (seen_by ks) ≡ Some e

  abbrev entry_of : ℕ → Call → Reply → Entry
  entry_of client call reply = record { client = client; call = call; reply = reply }

  pub enters : (ks ks' : List Knows) (place : ℕ) (now : Knows) (old : List Numbered) (call : Call) (reply : Reply)
      → AreBelow (seen_by ks) ks → seen_by ks < now.seen → slice_get ks' place ≡ Some now
      → now.part ≡ old ++ numbered now.seen call reply ∷ [] → seen_by ks' ≡ now.seen
      → ((i : ℕ) → IsEntered ks' i → IsEntered ks i ⊎ IsAmong (numbered now.seen call reply ∷ []) i)
      → Grows ks' end → Enters ks ks' (entry_of now.number call reply)
  enters ks ks' place now old call reply below later at longer seen new g =
      let n : ℕ = seen_by ks in
      let next : now.seen ≡ suc n =
      elim (new (suc n) (covered rules room limit history end c ks' g (suc n) (omega arith)
      (omega (arith, later, seen)))) [
        | inl was ↦ let less = entered_below n ks (suc n) below was in absurd (omega arith)
        | inr came ↦ elim came [ inl e ↦ e | inr e ↦ absurd e ]
      ] in
      let is = last_of (IsEntry history now.number) old (numbered now.seen call reply)
      (subst (AllByRecursion (IsEntry history now.number)) longer
      (part_tells rules room limit history end c ks' g place now at)) in
      let here : is.0 ≡ n = let e = is.1 in omega (arith, e, next) in
      record {
        seen = seen ∙ next;
        entry = subst (λ j. slice_get history j ≡ Some (entry_of now.number call reply)) here is.2;
      }

  module _ (ks ks' : List Knows) (e : Entry) (s : IsSettled rules room history ks) (h : Enters ks ks' e) where
    abbrev was : State
    was = tree_at rules room history (seen_by ks)

    pub stands : MayStand was e
    stands = may_stand (start rules room) history (seen_by ks) e c.legal h.entry

    pub tree_then : tree_at rules room history (seen_by ks') ≡ after was e
    tree_then = ap (tree_at rules room history) h.seen
        ∙ state_next (start rules room) history (seen_by ks) e h.entry

    zero_free : has was.clients 0 ≡ false
    zero_free = not_there (has was.clients 0)
        (λ there. let first = (numbers_at rules room limit history end c (seen_by ks) 0 there).0 in
        absurd (omega (arith, first)))

    fresh_free : (r : Reply) → ((k : ℕ) → r ≡ Spawned k → has was.clients k ≡ false)
        → has was.clients (fresh_of r) ≡ false
    fresh_free (Spawned k) spawned = spawned k refl
    fresh_free _ spawned = zero_free

    pub taken : take (seen_by ks') history ≡ take (seen_by ks) history ++ e ∷ []
    taken = ap (λ n. take n history) h.seen ∙ one_taken history (seen_by ks) e h.entry

    -- the step that the plain tree makes
    pub is_next : Called (between rules room limit history ks) e.client e.call e.reply
        (next (between rules room limit history ks) e.client e.call e.reply (after was e))
    is_next =
        let within = entry_within history (seen_by ks) e h.entry in
        let fits = c.within in
        let long = length-take-le (seen_by ks) history s.low in
        answered e.reply (after was e) (fresh_of e.reply) (omega (arith, within, fits, long))
        (fresh_free e.reply stands.spawned) (λ i. (sym stands.answered i, after was e))

    pub is_called : numbers_of ks' ≡ numbers_of ks ++ brought e.reply
        → Called (between rules room limit history ks) e.client e.call e.reply (between rules room limit history ks')
    is_called numbers = subst (Called (between rules room limit history ks) e.client e.call e.reply)
        (λ i. record {
          tree = sym tree_then i;
          clients = sym numbers i;
          entries = sym taken i;
          limit = limit;
        })
        is_next

    others_there : AllByRecursion (λ q. has (after was e).clients q ≡ true) (numbers_of ks)
    others_there = all_map (λ q. has was.clients q ≡ true) (λ q. has (after was e).clients q ≡ true) (numbers_of ks)
        (λ q there. step-clients_stay was e.client e.call (fresh_of e.reply) q there) s.there

    settled_by : AreBelow (seen_by ks') ks' → numbers_of ks' ≡ numbers_from 1 (length ks')
        → AllByRecursion (λ q. has (after was e).clients q ≡ true) (numbers_of ks')
        → len (after was e).clients ≡ length ks' → IsSettled rules room history ks'
    settled_by below numbers there count =
        let within = entry_within history (seen_by ks) e h.entry in
        let seen = h.seen in
        record {
          low = omega (arith, within, seen);
          known = below;
          numbers = numbers;
          there = subst (λ (t : State). AllByRecursion (λ q. has t.clients q ≡ true) (numbers_of ks')) (sym tree_then)
              there;
          count = ap (λ (t : State). len t.clients) tree_then ∙ count;
        }

    -- where nobody comes
    pub settled_same : numbers_of ks' ≡ numbers_of ks → AreBelow (seen_by ks') ks' → is_connect e.call ≡ false
        → ((n : ℕ) → e.reply ≢ Spawned n) → IsSettled rules room history ks'
    settled_same numbers below other none =
        let count : length ks' ≡ length ks =
        sym (count_numbers ks') ∙ ap length numbers ∙ count_numbers ks in
        settled_by below (numbers ∙ s.numbers ∙ ap (numbers_from 1) (sym count))
        (subst (AllByRecursion (λ q. has (after was e).clients q ≡ true)) (sym numbers) others_there)
        (same_many was e stands other none ∙ s.count ∙ sym count)

    -- where one comes, it has the next number
    pub comes_next : (k : ℕ) → has was.clients k ≡ false → has (after was e).clients k ≡ true
        → len (after was e).clients ≡ len was.clients + 1 → k ≡ length ks + 1
    comes_next k out there count =
        let number = numbers_at rules room limit history end c (seen_by ks') k
        (ap (λ (t : State). has t.clients k) tree_then ∙ there) in
        let many : len (tree_at rules room history (seen_by ks')).clients ≡ length ks + 1 =
        ap (λ (t : State). len t.clients) tree_then ∙ count ∙ ap (λ n. n + 1) s.count in
        let first = number.0 in
        let last = number.1 in
        elim (cases_lt (length ks) k) [
          | inl lt ↦ omega (arith, lt, last, many)
          | inr ge ↦ absurd (false≢true (sym out
              ∙ each_number (λ q. has was.clients q ≡ true) 1 (length ks) k
              (subst (AllByRecursion (λ q. has was.clients q ≡ true)) s.numbers s.there) first (omega (arith, ge))))
        ]

    pub settled_more : (k : ℕ) → numbers_of ks' ≡ numbers_of ks ++ k ∷ [] → AreBelow (seen_by ks') ks'
        → k ≡ length ks + 1 → has (after was e).clients k ≡ true → len (after was e).clients ≡ len was.clients + 1
        → IsSettled rules room history ks'
    settled_more k numbers below is there count =
        let more : length ks' ≡ suc (length ks) =
        (let long = length-append (numbers_of ks) (k ∷ []) in
        let before = count_numbers ks in
        let now = sym (count_numbers ks') ∙ ap length numbers in
        omega (arith, long, before, now)) in
        let same : k ≡ 1 + length ks = omega (arith, is) in
        let total : length ks + 1 ≡ length ks' = omega (arith, more) in
        settled_by below
        (numbers ∙ (λ i. s.numbers i ++ same i ∷ []) ∙ one_number 1 (length ks) ∙ ap (numbers_from 1) (sym more))
        (subst (AllByRecursion (λ q. has (after was e).clients q ≡ true)) (sym numbers)
        (all_push (λ q. has (after was e).clients q ≡ true) (numbers_of ks) k others_there there))
        (count ∙ ap (λ n. n + 1) s.count ∙ total)
