-- Whoever has the first entries of a history has come before all others.
use Rattle.std.specs.Prelude.{◌≡◌, ◌≢◌, ⊤, ℕ, zero, suc, ◌+◌, ◌<◌, ◌≤◌, false, List, [], ◌∷◌, ◌++◌}
use Rattle.std.specs.Prelude.{length, map, None, Option, Some, slice_get, slice_set, refl}
use Rattle.std.specs.List.{All, AllByRecursion}
use Rattle.std.specs.declared.alloc.Global.{Global}
use Rattle.std.specs.declared.vec.Vec.{Vec}
use Rattle.std.proofs.Common.{sym, ap, subst, ◌∙◌, inl, inr, arith}
use Rattle.std.proofs.lemmas.Bool.{cases_lt}
use Rattle.std.proofs.lemmas.List.Elements.{recursion_from_All}
use Rattle.ll_client.specs.Closed.{HoldsPart, IsClosed, numbers_of}
use Rattle.ll_client.specs.Entries.{Knows, knows, numbered, part_from}
use Rattle.ll_client.specs.Gains.{Told}
use Rattle.ll_client.specs.declared.account.Numbered.{Numbered}
use Rattle.ll_node.specs.InodeTable.{AreDistinct, NotIn}
use Rattle.ll_journal.specs.declared.direct.Made.{Made}
use Rattle.ll_journal.specs.declared.direct.Made.TheVariants.{HistoryFull, NoMemory, Replied}
use Rattle.ll_plain.specs.Refusal.{is_refusal}
use Rattle.ll_seq.specs.declared.call.Call.{Call}
use Rattle.ll_seq.specs.declared.call.Call.TheVariants.{Connect}
use Rattle.ll_seq.specs.declared.reply.Entry.{Entry}
use Rattle.ll_seq.specs.declared.reply.Reply.{Reply}
use Rattle.ll_seq.specs.declared.reply.Reply.TheVariants.{Done}
use Rattle.ll_seq.specs.declared.rules.Rules.{Rules}
use Rattle.ll_session.specs.Beside.{MakesBeside}
use Rattle.ll_session.specs.Growth.{AreAbove, GrowAbove, Grows}
use Rattle.ll_session.specs.Talk.{Asks, AsksFor, met, reply_of, seen_by}
use Rattle.ll_session.proofs.Entered.{IsAmong, IsEntered}
use Rattle.ll_session.proofs.Growths.{all_stay}
use Rattle.ll_session.proofs.KeptParts.{IsEntry, all_first, all_map, part_entries}
use Rattle.ll_session.proofs.Seen.{seen_push, seen_set}
use Rattle.ll_commands.specs.Loader.{HasBegun, HasLoaded, entry_count}

-- ---- entries stay

among_more : (xs ys : List Numbered) (i : ℕ) → IsAmong xs i → IsAmong (xs ++ ys) i
among_more [] ys i h = absurd h
among_more (x ∷ xs) ys i (inl h) = inl h
among_more (x ∷ xs) ys i (inr h) = inr (among_more xs ys i h)

among_last : (xs : List Numbered) (x : Numbered) → IsAmong (xs ++ x ∷ []) x.number
among_last [] x = inl refl
among_last (y ∷ xs) x = inr (among_last xs x)

entered_more : (ks ls : List Knows) (i : ℕ) → IsEntered ks i → IsEntered (ks ++ ls) i
entered_more [] ls i h = absurd h
entered_more (k ∷ ks) ls i (inl h) = inl h
entered_more (k ∷ ks) ls i (inr h) = inr (entered_more ks ls i h)

-- one of them has one entry more
entered_still : (ks : List Knows) (place : ℕ) (k now : Knows) (x : Numbered) (i : ℕ) → slice_get ks place ≡ Some k
    → now.part ≡ k.part ++ x ∷ [] → IsEntered ks i → IsEntered (slice_set ks place now) i
entered_still [] place k now x i at longer h = absurd h
entered_still (j ∷ ks) zero k now x i at longer (inl h) =
    let here : j ≡ k = cc at in
    inl (subst (λ xs. IsAmong xs i) (sym longer)
    (among_more k.part (x ∷ []) i (subst (λ (y : Knows). IsAmong y.part i) here h)))
entered_still (j ∷ ks) zero k now x i at longer (inr h) = inr h
entered_still (j ∷ ks) (suc place) k now x i at longer (inl h) = inl h
entered_still (j ∷ ks) (suc place) k now x i at longer (inr h) = inr (entered_still ks place k now x i at longer h)

entered_now : (ks : List Knows) (place : ℕ) (k now : Knows) (x : Numbered) → slice_get ks place ≡ Some k
    → now.part ≡ k.part ++ x ∷ [] → IsEntered (slice_set ks place now) x.number
entered_now [] place k now x at longer = absurd (cc at)
entered_now (j ∷ ks) zero k now x at longer =
    inl (subst (λ xs. IsAmong xs x.number) (sym longer) (among_last k.part x))
entered_now (j ∷ ks) (suc place) k now x at longer = inr (entered_now ks place k now x at longer)

-- ---- they have all entries of which one of them knows

abbrev pub HaveAll : List Knows → Type 0
HaveAll ks = (i : ℕ) → 1 ≤ i → i ≤ seen_by ks → IsEntered ks i

-- these have made so many entries, and there were no others where they know of no more
abbrev Counts : ℕ → List Knows → Type 0
Counts count ks = (count ≤ seen_by ks) × (seen_by ks ≡ count → HaveAll ks)

one_more : (count : ℕ) (ks ks' : List Knows) → Counts count ks → seen_by ks < seen_by ks'
    → ((i : ℕ) → IsEntered ks i → IsEntered ks' i) → IsEntered ks' (seen_by ks') → Counts (count + 1) ks'
one_more count ks ks' counts more stay last = (
  let low = counts.0 in omega (arith, low, more),
  λ same i first within. elim (cases_lt i (seen_by ks')) [
    | inl lt ↦ let low = counts.0 in
        stay i (counts.1 (omega (arith, low, more, same)) i first (omega (arith, low, more, same, lt)))
    | inr ge ↦ let here : seen_by ks' ≡ i = omega (arith, within, ge) in subst (IsEntered ks') here last
  ],
)

-- by a call that has its entry
told_more : (count : ℕ) (ks : List Knows) (place : ℕ) (me now : Knows) (call : Call) (reply : Reply)
    → slice_get ks place ≡ Some me → Told call reply (met ks me) now → Counts count ks
    → Counts (count + 1) (slice_set ks place now)
told_more count ks place me now call reply at told counts =
    let x : Numbered = numbered now.seen call reply in
    let above = told.0 in
    let seen : seen_by (slice_set ks place now) ≡ now.seen = seen_set ks place me now at (omega (arith, above)) in
    let longer : now.part ≡ me.part ++ x ∷ [] = ap (λ (k : Knows). k.part) told.2 in
    one_more count ks (slice_set ks place now) counts (omega (arith, above, seen))
    (λ i h. entered_still ks place me now x i at longer h)
    (subst (IsEntered (slice_set ks place now)) (sym seen) (entered_now ks place me now x at longer))

-- and brings a child
child_more : (count : ℕ) (ks : List Knows) (child : Knows) → child.seen ≡ seen_by ks → Counts count ks
    → Counts count (ks ++ child ∷ [])
child_more count ks child same counts =
    let seen : seen_by (ks ++ child ∷ []) ≡ child.seen = seen_push ks child (omega (arith, same)) in (
      let low = counts.0 in omega (arith, low, same, seen),
      λ all i first within. entered_more ks (child ∷ []) i
          (counts.1 (omega (arith, all, same, seen)) i first (omega (arith, within, same, seen))),
    )

by_asking : (limit count : ℕ) (ks ks' : List Knows) (place : ℕ) (call : Call) (it : Made)
    → Asks limit ks place call it ks' → is_refusal (reply_of it) ≡ false → Counts count ks → Counts (count + 1) ks'
by_asking limit count ks ks' place call (Replied reply) a quiet counts =
    subst (Counts (count + 1)) (sym a.after) (told_more count ks place a.me a.now call reply a.at a.gains counts)
by_asking limit count ks ks' place call HistoryFull a quiet counts = absurd (cc quiet)
by_asking limit count ks ks' place call NoMemory a quiet counts = absurd (cc quiet)

by_call : (limit count : ℕ) (ks ks' : List Knows) (place : ℕ) (call : Call) (reply : Reply)
    → AsksFor limit ks place call reply ks' → is_refusal reply ≡ false → Counts count ks → Counts (count + 1) ks'
by_call limit count ks ks' place call reply (inl h) quiet counts =
    let s = h.2 in
    let now = s.now in
    let above = s.told.0 in
    let seen : seen_by (slice_set ks place now) ≡ now.seen = seen_set ks place s.me now s.at (omega (arith, above)) in
    subst (Counts (count + 1)) (sym s.after)
    (child_more (count + 1) (slice_set ks place now) (knows h.0 [] [] now.seen None) (sym seen)
    (told_more count ks place s.me now _ _ s.at s.told counts))
by_call limit count ks ks' place call reply (inr h) quiet counts =
    by_asking limit count ks ks' place call h.0 h.1 (ap is_refusal (sym h.2) ∙ quiet) counts

by_calls : (limit count : ℕ) (ks ks' : List Knows) (place : ℕ) (calls : List Call)
    → MakesBeside limit ks place calls ks' → Counts count ks → Counts (count + length calls) ks'
by_calls limit count ks ks' place [] h counts =
    let same : count ≡ count + 0 = omega arith in
    subst (λ n. Counts n ks') same (subst (Counts count) (sym h) counts)
by_calls limit count ks ks' place (call ∷ calls) h counts =
    let same : count + 1 + length calls ≡ count + suc (length calls) = omega arith in
    subst (λ n. Counts n ks') same
    (by_calls limit (count + 1) h.1 ks' place calls h.4 (by_call limit count ks h.1 place call h.0 h.2 h.3 counts))

begun : (me : Knows) → HasBegun me → Counts 1 (me ∷ [])
begun me come = (
  let some = come.1 in omega arith,
  λ same i first within.
      let x : Numbered = numbered me.seen Connect Done in
      let part : me.part ≡ x ∷ [] = ap (λ (k : Knows). k.part) come.0 in
      let here : me.seen ≡ i = omega (arith, same, first, within) in
      inl (subst (λ xs. IsAmong xs i) (sym part) (inl here)),
)

nobody_counts : (ks : List Knows) → ks ≡ [] → Counts 0 ks
nobody_counts ks none =
    subst (Counts 0) (sym none) (omega arith, λ same i first within. absurd (omega (arith, first, within)))

loaded_counts : (limit : ℕ) (loader : Option (Vec Call Global)) (ks : List Knows) → HasLoaded limit loader ks
    → Counts (entry_count loader) ks
loaded_counts limit None ks h = nobody_counts ks h
loaded_counts limit (Some calls) ks h =
    let same : 1 + length calls.items ≡ length calls.items + 1 = omega arith in
    subst (λ n. Counts n ks) same (by_calls limit 1 (h.0 ∷ []) ks 0 calls.items h.2 (begun h.0 h.1))

-- a loader that knows of no other entries than its own has all of which it knows
pub loaded_all : (limit : ℕ) (loader : Option (Vec Call Global)) (ks : List Knows) → HasLoaded limit loader ks
    → seen_by ks ≤ entry_count loader → HaveAll ks
loaded_all limit loader ks h most =
    let counts = loaded_counts limit loader ks h in
    let low = counts.0 in
    counts.1 (omega (arith, low, most))

-- ---- whoever has all of which one of them knows came before the others

all_last : {A : Type 0} (P : A → Type 0) (xs ys : List A) → AllByRecursion P (xs ++ ys) → AllByRecursion P ys
all_last P [] ys all = all
all_last P (x ∷ xs) ys all = all_last P xs ys all.1

all_tt : {A : Type 0} (xs : List A) → AllByRecursion (λ (x : A). ⊤) xs
all_tt [] = tt
all_tt (x ∷ xs) = (tt, all_tt xs)

all_both : {A : Type 0} (P Q : A → Type 0) (xs : List A) → AllByRecursion P xs → AllByRecursion Q xs
    → AllByRecursion (λ (x : A). P x × Q x) xs
all_both P Q [] p q = tt
all_both P Q (x ∷ xs) p q = ((p.0, q.0), all_both P Q xs p.1 q.1)

not_later : (m : ℕ) (ks others : List Knows) → NotIn m (numbers_of (ks ++ others))
    → AllByRecursion (λ (o : Knows). m ≢ o.number) others
not_later m [] [] h = tt
not_later m [] (o ∷ others) h = (h.0, not_later m [] others h.1)
not_later m (k ∷ ks) others h = not_later m ks others h.1

-- none of these has the number
abbrev AreNot : List Knows → ℕ → Type 0
AreNot ks q = AllByRecursion (λ (k : Knows). k.number ≢ q) ks

apart : (ks others : List Knows) → AreDistinct (numbers_of (ks ++ others))
    → AllByRecursion (λ (o : Knows). AreNot ks o.number) others
apart [] others h = all_tt others
apart (k ∷ ks) others h = all_both (λ (o : Knows). k.number ≢ o.number) (λ (o : Knows). AreNot ks o.number) others
    (not_later k.number ks others h.0) (apart ks others h.1)

module _ (history : List Entry) where
  -- this client has the entry of that number
  abbrev IsBy : ℕ → ℕ → Type 0
  IsBy client i = (j : ℕ) × (i ≡ j + 1) × (e : Entry) × (slice_get history j ≡ Some e) × (e.client ≡ client)

  by_whom : (client : ℕ) (xs : List Numbered) (i : ℕ) → AllByRecursion (IsEntry history client) xs → IsAmong xs i
      → IsBy client i
  by_whom client [] i all h = absurd h
  by_whom client (x ∷ xs) i all (inl h) = (all.0.0, sym h ∙ all.0.1, _, all.0.2, refl)
  by_whom client (x ∷ xs) i all (inr h) = by_whom client xs i all.1 h

  by_one : (p q i : ℕ) → IsBy p i → IsBy q i → p ≡ q
  by_one p q i one other =
      let place : one.0 ≡ other.0 = let a = one.1 in let b = other.1 in omega (arith, a, b) in
      let both : Some one.2 ≡ Some other.2 =
      sym one.3 ∙ ap (slice_get history) place ∙ other.3 in
      let same : one.2 ≡ other.2 = cc both in
      sym one.4 ∙ ap (λ (e : Entry). e.client) same ∙ other.4

  abbrev HasPart : Knows → Type 0
  HasPart k = k.part ≡ part_from 0 k.number history

  entries_of : (k : Knows) → HasPart k → AllByRecursion (IsEntry history k.number) k.part
  entries_of k part =
      subst (AllByRecursion (IsEntry history k.number)) (sym part) (part_entries k.number history)

  by_none : (ks : List Knows) (q i : ℕ) → AreNot ks q → AllByRecursion HasPart ks → IsEntered ks i → IsBy q i → ⊥
  by_none [] q i others parts h is = absurd h
  by_none (k ∷ ks) q i others parts (inl h) is =
      others.0 (by_one k.number q i (by_whom k.number k.part i (entries_of k parts.0) h) is)
  by_none (k ∷ ks) q i others parts (inr h) is = by_none ks q i others.1 parts.1 h is

  module _ (ks : List Knows) (all : HaveAll ks) (parts : AllByRecursion HasPart ks) where
    one_above : (q : ℕ) (x : Numbered) → AreNot ks q → IsEntry history q x → seen_by ks < x.number
    one_above q x others is = elim (cases_lt (seen_by ks) x.number) [
      | inl lt ↦ lt
      | inr ge ↦ absurd (by_none ks q x.number others parts
          (all x.number (let at = is.1 in omega (arith, at)) ge)
          (is.0, is.1, _, is.2, refl))
    ]

    entries_above : (q : ℕ) (xs : List Numbered) → AreNot ks q → AllByRecursion (IsEntry history q) xs
        → AreAbove (seen_by ks) xs
    entries_above q [] others is = tt
    entries_above q (x ∷ xs) others is = (one_above q x others is.0, entries_above q xs others is.1)

    all_above : (others : List Knows) → AllByRecursion (λ (o : Knows). AreNot ks o.number) others
        → AllByRecursion HasPart others → AllByRecursion (λ (o : Knows). AreAbove (seen_by ks) o.part) others
    all_above [] far theirs = tt
    all_above (o ∷ others) far theirs =
        (entries_above o.number o.part far.0 (entries_of o theirs.0), all_above others far.1 theirs.1)

others_come : (n : ℕ) (ks others : List Knows) → AllByRecursion (λ (o : Knows). AreAbove n o.part) others
    → GrowAbove n ks (ks ++ others)
others_come n [] others above = above
others_come n (k ∷ ks) others above = ((all_stay n (k ∷ [])).0, others_come n ks others above)

seen_more : (ks others : List Knows) → seen_by ks ≤ seen_by (ks ++ others)
seen_more [] others = omega arith
seen_more (k ∷ ks) others = let rest = seen_more ks others in omega (arith, rest)

pub come_first : (rules : Rules) (room limit : ℕ) (history : List Entry) (ks others : List Knows)
    → IsClosed rules room limit history (ks ++ others) → HaveAll ks → Grows ks (ks ++ others)
come_first rules room limit history ks others c all =
    let parts : AllByRecursion (HasPart history) (ks ++ others) =
    all_map (HoldsPart rules room limit history) (HasPart history) (ks ++ others) (λ k h. h.0) c.clients.parts in (
      others_come (seen_by ks) ks others
          (all_above history ks all (all_first (HasPart history) ks others parts) others
          (apart ks others c.clients.once) (all_last (HasPart history) ks others parts)),
      seen_more ks others,
    )

-- ---- what clients know of

pub seen_within : {A : Type 0} (f : A → Knows) (xs : List A) (n : ℕ) → All (λ (x : A). (f x).seen ≤ n) xs
    → seen_by (map f xs) ≤ n
seen_within {A = A} f xs n all = by_each xs (recursion_from_All (λ (x : A). (f x).seen ≤ n) xs all)
  where
    by_each : (ys : List A) → AllByRecursion (λ (x : A). (f x).seen ≤ n) ys → seen_by (map f ys) ≤ n
    by_each [] h = omega arith
    by_each (y ∷ ys) h = let rest = by_each ys h.1 in let first = h.0 in omega (arith, rest, first)
