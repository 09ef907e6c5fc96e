-- What each act of a session comes to, when the tree is closed.
use Rattle.std.specs.Prelude.{◌≡◌, ◌≢◌, ℕ, ◌+◌, ◌<◌, ◌≤◌, true, false, List, [], ◌∷◌, ◌++◌}
use Rattle.std.specs.Prelude.{length, take, Some, None, slice_get, slice_set, refl}
use Rattle.std.specs.List.{AllByRecursion}
use Rattle.std.proofs.Common.{sym, ap, subst, ◌∙◌, inl, inr, arith}
use Rattle.std.proofs.lemmas.List.{append-nil, length-take-le}
use Rattle.ll_rights.specs.declared.errno.Errno.TheVariants.{HistoryFull, NoMemory}
use Rattle.ll_rights.specs.Map.{has}
use Rattle.ll_seq.specs.declared.call.Call.{Call}
use Rattle.ll_seq.specs.declared.call.Call.TheVariants.{Connect, Spawn}
use Rattle.ll_seq.specs.declared.reply.Entry.{Entry}
use Rattle.ll_seq.specs.declared.reply.Reply.{Reply}
use Rattle.ll_seq.specs.declared.reply.Reply.TheVariants.{Done, Refused, Spawned}
use Rattle.ll_seq.specs.declared.rules.Rules.{Rules}
use Rattle.ll_seq.specs.History.{after, is_connect}
use Rattle.ll_seq.specs.State.{State}
use Rattle.ll_seq.specs.Memory.{MayStarve}
use Rattle.ll_session.specs.Between.{IsSettled, Leads, between, tree_at}
use Rattle.ll_client.specs.Closed.{IsClosed}
use Rattle.ll_client.specs.Entries.{IsStarved, Knows, knows, numbered}
use Rattle.ll_client.specs.Gains.{Told}
use Rattle.ll_client.specs.declared.account.Numbered.{Numbered}
use Rattle.ll_client.specs.Closed.{numbers_of}
use Rattle.ll_client.specs.Entries.{starved_at}
use Rattle.ll_journal.specs.declared.direct.Made.TheVariants as made
use Rattle.ll_journal.specs.declared.direct.Made.{Made}
use Rattle.ll_session.specs.PartySession.{Session, Called, Connects, brought, following, full, joined, next, starved}
use Rattle.ll_session.specs.Growth.{ComesOn, Grows}
use Rattle.ll_session.specs.Talk.{Asks, Joins, Looks, LooksAt, Spawns, is_birth, met, reply_of, seen_by}
use Rattle.ll_session.proofs.Closings.{was_starved}
use Rattle.ll_session.proofs.Comers.{caller_there, child_there, one_child, one_comer}
use Rattle.ll_session.proofs.Entered.{AreBelow, entered_push, entered_set}
use Rattle.ll_session.proofs.Growths.{grows_push, grows_set, stays_so}
use Rattle.ll_session.proofs.KeptParts.{all_at, all_map, all_push, all_set, first_there, last_of, push_there, set_there}
use Rattle.ll_session.proofs.Seen.{count_numbers, numbers_push, numbers_set, seen_push, seen_set}
use Rattle.ll_session.proofs.Steps.{Enters, comes_next, enters, is_called, no_entry, settled_more, settled_same, stands}
use Rattle.ll_session.proofs.Steps.{is_next, still_between, still_settled, taken, tree_then}

-- ---- how a client comes on

told_on : (ks : List Knows) (me now : Knows) (call : Call) (reply : Reply) → Told call reply (met ks me) now
    → ComesOn (seen_by ks) me now
told_on ks me now call reply h = record {
  number = ap (λ (k : Knows). k.number) h.2;
  part = (numbered now.seen call reply ∷ [], ap (λ (k : Knows). k.part) h.2, (h.0, tt));
  starved = ([], ap (λ (k : Knows). k.starved) h.2 ∙ sym (append-nil me.starved));
}

full_on : (n seen : ℕ) (me now : Knows) → now ≡ record me { seen = seen } → ComesOn n me now
full_on n seen me now h = record {
  number = ap (λ (k : Knows). k.number) h;
  part = ([], ap (λ (k : Knows). k.part) h ∙ sym (append-nil me.part), tt);
  starved = ([], ap (λ (k : Knows). k.starved) h ∙ sym (append-nil me.starved));
}

lean_on : (n seen : ℕ) (me now : Knows) (call : Call)
    → now ≡ record me { starved = me.starved ++ starved_at seen call ∷ []; seen = seen } → ComesOn n me now
lean_on n seen me now call h = record {
  number = ap (λ (k : Knows). k.number) h;
  part = ([], ap (λ (k : Knows). k.part) h ∙ sym (append-nil me.part), tt);
  starved = (starved_at seen call ∷ [], ap (λ (k : Knows). k.starved) h);
}

-- ---- no entry of theirs is later

below_more : (m n : ℕ) (ks : List Knows) → m ≤ n → AreBelow m ks → AreBelow n ks
below_more m n ks le all =
    all_map (λ (k : Knows). AllByRecursion (λ (x : Numbered). x.number ≤ m) k.part)
    (λ (k : Knows). AllByRecursion (λ (x : Numbered). x.number ≤ n) k.part) ks
    (λ k h. all_map (λ (x : Numbered). x.number ≤ m) (λ (x : Numbered). x.number ≤ n) k.part (λ x low. omega arith) h)
    all

-- of one that came on by nothing, or by this entry
module _ (ks : List Knows) (place : ℕ) (me now : Knows) (at : slice_get ks place ≡ Some me)
    (below : AreBelow (seen_by ks) ks) where
  abbrev Below : ℕ → Knows → Type 0
  Below n k = AllByRecursion (λ (x : Numbered). x.number ≤ n) k.part

  same_below : now.part ≡ me.part → AreBelow (seen_by ks) (slice_set ks place now)
  same_below part = all_set (Below (seen_by ks)) ks place now below
      (subst (AllByRecursion (λ (x : Numbered). x.number ≤ seen_by ks)) (sym part)
      (all_at (Below (seen_by ks)) ks place me below at))

  told_below : (call : Call) (reply : Reply) → seen_by ks ≤ now.seen
      → now.part ≡ me.part ++ numbered now.seen call reply ∷ [] → AreBelow now.seen (slice_set ks place now)
  told_below call reply later part =
      let more = below_more (seen_by ks) now.seen ks later below in
      all_set (Below now.seen) ks place now more
      (subst (AllByRecursion (λ (x : Numbered). x.number ≤ now.seen)) (sym part)
      (all_push (λ (x : Numbered). x.number ≤ now.seen) me.part (numbered now.seen call reply)
      (all_at (Below now.seen) ks place me more at) (omega arith)))

no_birth : (reply : Reply) → is_birth (made.Replied reply) ≡ false → brought reply ≡ []
no_birth (Spawned n) e = absurd (cc e)
no_birth _ e = refl

no_child : (reply : Reply) → is_birth (made.Replied reply) ≡ false → (n : ℕ) → reply ≢ Spawned n
no_child reply e n is = absurd (let both : true ≡ false = sym (ap (λ r. is_birth (made.Replied r)) is) ∙ e in cc)

module _ (rules : Rules) (room limit : ℕ) (ks : List Knows) (place : ℕ) (me now : Knows)
    (at : slice_get ks place ≡ Some me) where
  abbrev then : List Knows
  then = slice_set ks place now

  -- ---- the client is answered

  module _ (call : Call) (reply : Reply) (told : Told call reply (met ks me) now) where
    told_part : now.part ≡ me.part ++ numbered now.seen call reply ∷ []
    told_part = ap (λ (k : Knows). k.part) told.2

    told_number : now.number ≡ me.number
    told_number = ap (λ (k : Knows). k.number) told.2

    told_later : seen_by ks ≤ now.seen
    told_later = let lt = told.0 in omega (arith, lt)

    told_grows : Grows ks then
    told_grows = grows_set ks place me now at (told_on ks me now call reply told) told_later

    replied : is_connect call ≡ false → is_birth (made.Replied reply) ≡ false
        → Leads rules room limit ks then (λ s t. Called s me.number call reply t)
    replied other childless = (
      told_grows,
      λ history end c g s.
          let seen : seen_by then ≡ now.seen = seen_set ks place me now at told_later in
          let e : Entry = record { client = now.number; call = call; reply = reply } in
          let h : Enters rules room limit history end c ks then e =
          enters rules room limit history end c ks then place now me.part call reply s.known told.0
          (set_there ks place me now at) told_part seen
          (λ i. entered_set ks place me now (numbered now.seen call reply ∷ []) i at told_part) g in
          let numbers : numbers_of then ≡ numbers_of ks = numbers_set ks place me now at told_number in
          let below : AreBelow (seen_by then) then =
          subst (λ n. AreBelow n then) (sym seen)
          (told_below ks place me now at s.known call reply told_later told_part)
          in (
            settled_same rules room limit history end c ks then e s h numbers below other (no_child reply childless),
            subst (λ n. Called (between rules room limit history ks) n call reply
                (between rules room limit history then))
                told_number
                (is_called rules room limit history end c ks then e s h
                (numbers ∙ sym (append-nil (numbers_of ks)) ∙ ap (λ ns. numbers_of ks ++ ns)
                (sym (no_birth reply childless)))),
          ),
    )

  -- ---- it isn't

  -- it knows of more, and none has an entry more
  quiet : ComesOn (seen_by ks) me now → now.part ≡ me.part → seen_by ks ≤ now.seen
      → (history : List Entry) (end : List Knows) → IsClosed rules room limit history end → Grows then end
      → IsSettled rules room history ks → IsSettled rules room history then
      × (now.seen ≡ seen_by ks) × (between rules room limit history then ≡ between rules room limit history ks)
  quiet on part later history end c g s =
      let set : seen_by then ≡ now.seen = seen_set ks place me now at later in
      let below = same_below ks place me now at s.known part in
      let same : seen_by then ≡ seen_by ks = no_entry rules room limit history end c ks then below
      (omega (arith, later, set)) g in
      let numbers : numbers_of then ≡ numbers_of ks = numbers_set ks place me now at on.number in (
        still_settled rules room limit history end c ks then same numbers below s,
        sym set ∙ same,
        still_between rules room limit history end c ks then same numbers,
      )

  long : (history : List Entry) → IsSettled rules room history ks → length (take (seen_by ks) history) ≡ seen_by ks
  long history s = length-take-le (seen_by ks) history s.low

  filled : (call : Call) → now ≡ record me { seen = limit } → seen_by ks ≤ now.seen
      → Leads rules room limit ks then (λ s t. Called s me.number call (Refused HistoryFull) t)
  filled call is later =
      let on = full_on (seen_by ks) limit me now is in (
        grows_set ks place me now at on later,
        λ history end c g s.
            let q = quiet on (ap (λ (k : Knows). k.part) is) later history end c g s in
            let last : now.seen ≡ limit = ap (λ (k : Knows). k.seen) is in
            let all = long history s in
            let same = q.1 in (
              q.0,
              subst (Called (between rules room limit history ks) me.number call (Refused HistoryFull)) (sym q.2)
                  (full (omega (arith, last, all, same))),
            ),
      )

  lean : (call : Call) → seen_by ks ≤ now.seen
      → now ≡ record me { starved = me.starved ++ starved_at now.seen call ∷ []; seen = now.seen }
      → Leads rules room limit ks then (λ s t. Called s me.number call (Refused NoMemory) t)
  lean call later is =
      let on = lean_on (seen_by ks) now.seen me now call is in (
        grows_set ks place me now at on later,
        λ history end c g s.
            let q = quiet on (ap (λ (k : Knows). k.part) is) later history end c g s in
            let all = long history s in
            let same : now.seen ≡ seen_by ks = q.1 in
            let lacked : IsStarved rules room limit history me.number (starved_at now.seen call) =
            subst (λ n. IsStarved rules room limit history n (starved_at now.seen call)) on.number
            (last_of (IsStarved rules room limit history now.number) me.starved (starved_at now.seen call)
            (subst (AllByRecursion (IsStarved rules room limit history now.number)) (ap (λ (k : Knows). k.starved) is)
            (was_starved rules room limit history end c then g place now (set_there ks place me now at)))) in
            let fits : now.seen < limit = lacked.1 in (
              q.0,
              subst (Called (between rules room limit history ks) me.number call (Refused NoMemory)) (sym q.2)
                  (starved (omega (arith, fits, all, same))
                  (subst (λ n. MayStarve (tree_at rules room history n) me.number call) same lacked.2)),
            ),
      )

-- ---- by what came of it

pub asks : (rules : Rules) (room limit : ℕ) (ks ks' : List Knows) (place : ℕ) (call : Call) (made : Made)
    → (a : Asks limit ks place call made ks')
    → Leads rules room limit ks ks' (λ s t. Called s a.me.number call (reply_of made) t)
asks rules room limit ks ks' place call (made.Replied reply) a =
    subst (λ l. Leads rules room limit ks l (λ s t. Called s a.me.number call reply t)) (sym a.after)
    (replied rules room limit ks place a.me a.now a.at call reply a.gains a.other a.childless)
asks rules room limit ks ks' place call made.HistoryFull a =
    subst (λ l. Leads rules room limit ks l (λ s t. Called s a.me.number call (Refused HistoryFull) t)) (sym a.after)
    (filled rules room limit ks place a.me a.now a.at call a.gains.1
    (let last : a.now.seen ≡ limit = ap (λ (k : Knows). k.seen) a.gains.1 in
    let less = a.gains.0 in
    omega (arith, last, less)))
asks rules room limit ks ks' place call made.NoMemory a =
    subst (λ l. Leads rules room limit ks l (λ s t. Called s a.me.number call (Refused NoMemory) t)) (sym a.after)
    (lean rules room limit ks place a.me a.now a.at call a.gains.1 a.gains.2)

looks_at : (rules : Rules) (room limit : ℕ) (ks ks' : List Knows) (place : ℕ) → LooksAt ks place ks'
    → Leads rules room limit ks ks' (λ s t. t ≡ s)
looks_at rules room limit ks ks' place l =
    let now : Knows = record l.me { seen = l.seen } in
    let on = full_on (seen_by ks) l.seen l.me now refl in
    subst (λ m. Leads rules room limit ks m (λ s t. t ≡ s)) (sym l.after) (
      grows_set ks place l.me now l.at on l.later,
      λ history end c g s.
          let q = quiet rules room limit ks place l.me now l.at on refl l.later history end c g s in (q.0, q.2),
    )

pub looks : (rules : Rules) (room limit : ℕ) (ks ks' : List Knows) (l : Looks ks ks')
    → Leads rules room limit ks ks' (λ s t. t ≡ s)
looks rules room limit ks ks' (inl none) =
    subst (λ m. Leads rules room limit ks m (λ s t. t ≡ s)) (none.0 ∙ sym none.1)
    (stays_so ks, λ history end c g s. (s, refl))
looks rules room limit ks ks' (inr l) = looks_at rules room limit ks ks' l.0 l.1

-- ---- a child comes

spawns_so : (rules : Rules) (room limit : ℕ) (ks : List Knows) (place child : ℕ) (me now : Knows)
    → slice_get ks place ≡ Some me → Told Spawn (Spawned child) (met ks me) now
    → Leads rules room limit ks (slice_set ks place now ++ knows child [] [] now.seen None ∷ [])
    (λ s t. Called s me.number Spawn (Spawned child) t × (child ≡ following s))
spawns_so rules room limit ks place child me now at told =
    let young : Knows = knows child [] [] now.seen None in
    let mid : List Knows = slice_set ks place now in
    let then : List Knows = mid ++ young ∷ [] in
    let later : seen_by ks ≤ now.seen = (let lt = told.0 in omega (arith, lt)) in
    let part : now.part ≡ me.part ++ numbered now.seen Spawn (Spawned child) ∷ [] = ap (λ (k : Knows). k.part) told.2 in
    let number : now.number ≡ me.number = ap (λ (k : Knows). k.number) told.2 in
    let seen_mid : seen_by mid ≡ now.seen = seen_set ks place me now at later in
    let seen : seen_by then ≡ now.seen = seen_push mid young (omega (arith, seen_mid)) in (
      grows_push ks mid young (grows_set ks place me now at (told_on ks me now Spawn (Spawned child) told) later) tt
          (omega (arith, seen_mid)),
      λ history end c g s.
          let e : Entry = record { client = now.number; call = Spawn; reply = Spawned child } in
          let h : Enters rules room limit history end c ks then e =
          enters rules room limit history end c ks then place now me.part Spawn (Spawned child) s.known told.0
          (first_there mid (young ∷ []) place now (set_there ks place me now at)) part seen
          (λ i is. elim (entered_push mid young i is) [
            | inl was ↦ entered_set ks place me now (numbered now.seen Spawn (Spawned child) ∷ []) i at part was
            | inr none ↦ absurd none
          ]) g in
          let numbers : numbers_of then ≡ numbers_of ks ++ child ∷ [] =
          numbers_push mid young ∙ ap (λ ns. ns ++ child ∷ []) (numbers_set ks place me now at number) in
          let may = stands rules room limit history end c ks then e s h in
          let was = tree_at rules room history (seen_by ks) in
          let there : has (after was e).clients child ≡ true = child_there was e may child refl in
          let count = one_child was e may refl child refl in
          let next : child ≡ length ks + 1 =
          comes_next rules room limit history end c ks then e s h child (may.spawned child refl) there count in
          let below : AreBelow (seen_by then) then = subst (λ n. AreBelow n then) (sym seen)
          (all_push (λ (k : Knows). AllByRecursion (λ (x : Numbered). x.number ≤ now.seen) k.part) mid young
          (told_below ks place me now at s.known Spawn (Spawned child) later part) tt) in (
            settled_more rules room limit history end c ks then e s h child numbers below next there count,
            (
              subst (λ n. Called (between rules room limit history ks) n Spawn (Spawned child)
                  (between rules room limit history then)) number
                  (is_called rules room limit history end c ks then e s h numbers),
              next ∙ ap (λ n. n + 1) (sym (count_numbers ks)),
            ),
          ),
    )

pub spawns : (rules : Rules) (room limit : ℕ) (ks ks' : List Knows) (place child : ℕ) (a : Spawns ks place child ks')
    → Leads rules room limit ks ks' (λ s t. Called s a.me.number Spawn (Spawned child) t × (child ≡ following s))
spawns rules room limit ks ks' place child a =
    subst (λ l. Leads rules room limit ks l
    (λ s t. Called s a.me.number Spawn (Spawned child) t × (child ≡ following s))) (sym a.after)
    (spawns_so rules room limit ks place child a.me a.now a.at a.told)

-- ---- somebody connects

connects_so : (rules : Rules) (room limit : ℕ) (ks ks' : List Knows) (number : ℕ) (history : List Entry)
    (end : List Knows) (c : IsClosed rules room limit history end) (e : Entry) (s : IsSettled rules room history ks)
    → Enters rules room limit history end c ks ks' e → e.client ≡ number → e.call ≡ Connect → e.reply ≡ Done
    → numbers_of ks' ≡ numbers_of ks ++ number ∷ [] → number ≡ following (between rules room limit history ks)
    → has (tree_at rules room history (seen_by ks)).clients number ≡ false
    → (mid : Session) × Connects (between rules room limit history ks) Done mid
    × (joined (between rules room limit history ks) mid ≡ between rules room limit history ks')
    × (number ≡ following (between rules room limit history ks))
connects_so rules room limit ks ks' number history end c e s h client call reply numbers one out =
    let now : Session = between rules room limit history ks in
    let then : Session = between rules room limit history ks' in
    let tree : State = after now.tree e in
    let own : e.client ≡ following now = client ∙ one in
    let entry : ◌≡◌ {A = Entry} (record { client = following now; call = Connect; reply = Done }) e =
    λ i. record { client = sym own i; call = sym call i; reply = sym reply i } in
    let clients : (now.clients ++ []) ++ following now ∷ [] ≡ then.clients =
    ap (λ ns. ns ++ following now ∷ []) (append-nil now.clients)
    ∙ ap (λ n. now.clients ++ n ∷ []) (sym one) ∙ sym numbers in
    let tree_is : tree ≡ then.tree = sym (tree_then rules room limit history end c ks ks' e s h) in
    let longer : now.entries ++ e ∷ [] ≡ then.entries = sym (taken rules room limit history end c ks ks' e s h) in (
      next now (following now) Connect Done tree,
      (
        ap (has now.tree.clients) (sym one) ∙ out,
        subst (λ (x : ℕ × Call × Reply). Called now x.0 x.1 x.2 (next now x.0 x.1 x.2 tree))
            (λ i. (own i, call i, reply i)) (is_next rules room limit history end c ks ks' e s h),
      ),
      λ i. record {
        tree = tree_is i;
        clients = clients i;
        entries = (ap (λ (x : Entry). now.entries ++ x ∷ []) entry ∙ longer) i;
        limit = limit;
      },
      one,
    )

joins_so : (rules : Rules) (room limit : ℕ) (ks : List Knows) (number seen : ℕ) → seen_by ks < seen
    → Leads rules room limit ks (ks ++ knows number (numbered seen Connect Done ∷ []) [] seen None ∷ [])
    (λ s t. (mid : Session) × Connects s Done mid × (joined s mid ≡ t) × (number ≡ following s))
joins_so rules room limit ks number seen later =
    let young : Knows = knows number (numbered seen Connect Done ∷ []) [] seen None in
    let then : List Knows = ks ++ young ∷ [] in
    let last : seen_by then ≡ seen = seen_push ks young (omega (arith, later)) in (
      grows_push ks ks young (stays_so ks) (later, tt) (omega (arith, later)),
      λ history end c g s.
          let e : Entry = record { client = number; call = Connect; reply = Done } in
          let h : Enters rules room limit history end c ks then e =
          enters rules room limit history end c ks then (length ks) young [] Connect Done s.known later
          (push_there ks young) refl last (λ i. entered_push ks young i) g in
          let numbers : numbers_of then ≡ numbers_of ks ++ number ∷ [] = numbers_push ks young in
          let may = stands rules room limit history end c ks then e s h in
          let was = tree_at rules room history (seen_by ks) in
          let there : has (after was e).clients number ≡ true = caller_there was e may in
          let count = one_comer was e may refl in
          let next : number ≡ length ks + 1 =
          comes_next rules room limit history end c ks then e s h number may.caller there count in
          let below : AreBelow (seen_by then) then = subst (λ n. AreBelow n then) (sym last)
          (all_push (λ (k : Knows). AllByRecursion (λ (x : Numbered). x.number ≤ seen) k.part) ks young
          (below_more (seen_by ks) seen ks (omega (arith, later)) s.known) (omega arith, tt)) in
          let one : number ≡ following (between rules room limit history ks) =
          next ∙ ap (λ n. n + 1) (sym (count_numbers ks)) in (
            settled_more rules room limit history end c ks then e s h number numbers below next there count,
            connects_so rules room limit ks then number history end c e s h refl refl refl numbers one may.caller,
          ),
    )

pub joins : (rules : Rules) (room limit : ℕ) (ks ks' : List Knows) (number : ℕ) (j : Joins ks number ks')
    → Leads rules room limit ks ks'
    (λ s t. (mid : Session) × Connects s Done mid × (joined s mid ≡ t) × (number ≡ following s))
joins rules room limit ks ks' number j =
    subst (λ l. Leads rules room limit ks l
    (λ s t. (mid : Session) × Connects s Done mid × (joined s mid ≡ t) × (number ≡ following s))) (sym j.after)
    (joins_so rules room limit ks number j.seen j.later)
