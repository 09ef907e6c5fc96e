-- Which entries stand in the clients' parts.
use Rattle.std.specs.Prelude.{◌≡◌, ◌⊎◌, ℕ, zero, suc, ◌+◌, ◌<◌, ◌≤◌, ◌==◌, Bool, true, false, cond, List, [], ◌∷◌}
use Rattle.std.specs.Prelude.{◌++◌, Some, slice_get, slice_set, ◌||◌, refl}
use Rattle.std.specs.List.{AllByRecursion}
use Rattle.std.proofs.Common.{sym, ap, subst, inl, inr, arith}
use Rattle.std.proofs.lemmas.Bool.{eq-eqb, eqb-true}
use Rattle.ll_seq.specs.declared.reply.Entry.{Entry}
use Rattle.ll_laws.specs.Walk.{is_in}
use Rattle.ll_client.specs.Closed.{numbers_of}
use Rattle.ll_client.specs.Entries.{Knows, numbered, part_from}
use Rattle.ll_client.specs.declared.account.Numbered.{Numbered}
use Rattle.ll_session.specs.Growth.{AreAbove, ComesOn, GrowAbove}

-- one of them has this number
abbrev pub IsAmong : List Numbered → ℕ → Type 0
IsAmong [] i = ⊥
IsAmong (x ∷ xs) i = (x.number ≡ i) ⊎ IsAmong xs i

-- it stands in the part of one of them
abbrev pub IsEntered : List Knows → ℕ → Type 0
IsEntered [] i = ⊥
IsEntered (k ∷ ks) i = IsAmong k.part i ⊎ IsEntered ks i

-- none of theirs is above this
abbrev pub AreBelow : ℕ → List Knows → Type 0
AreBelow n ks = AllByRecursion (λ (k : Knows). AllByRecursion (λ (x : Numbered). x.number ≤ n) k.part) ks

among_append : (xs ys : List Numbered) (i : ℕ) → IsAmong (xs ++ ys) i → IsAmong xs i ⊎ IsAmong ys i
among_append [] ys i h = inr h
among_append (x ∷ xs) ys i (inl h) = inl (inl h)
among_append (x ∷ xs) ys i (inr h) = elim (among_append xs ys i h) [ inl a ↦ inl (inr a) | inr a ↦ inr a ]

among_below : (n : ℕ) (xs : List Numbered) (i : ℕ) → AllByRecursion (λ (x : Numbered). x.number ≤ n) xs → IsAmong xs i
    → i ≤ n
among_below n [] i all h = absurd h
among_below n (x ∷ xs) i all (inl h) = let low = all.0 in omega arith
among_below n (x ∷ xs) i all (inr h) = among_below n xs i all.1 h

among_above : (n : ℕ) (xs : List Numbered) (i : ℕ) → AreAbove n xs → IsAmong xs i → n < i
among_above n [] i all h = absurd h
among_above n (x ∷ xs) i all (inl h) = let high = all.0 in omega arith
among_above n (x ∷ xs) i all (inr h) = among_above n xs i all.1 h

pub entered_below : (n : ℕ) (ks : List Knows) (i : ℕ) → AreBelow n ks → IsEntered ks i → i ≤ n
entered_below n [] i all h = absurd h
entered_below n (k ∷ ks) i all (inl h) = among_below n k.part i all.0 h
entered_below n (k ∷ ks) i all (inr h) = entered_below n ks i all.1 h

-- ---- what is entered later was so before, or is above

entered_above : (n : ℕ) (ks : List Knows) (i : ℕ) → AllByRecursion (λ (k : Knows). AreAbove n k.part) ks
    → IsEntered ks i → n < i
entered_above n [] i all h = absurd h
entered_above n (k ∷ ks) i all (inl h) = among_above n k.part i all.0 h
entered_above n (k ∷ ks) i all (inr h) = entered_above n ks i all.1 h

came_on : (n : ℕ) (k k' : Knows) (i : ℕ) → ComesOn n k k' → IsAmong k'.part i → IsAmong k.part i ⊎ (n < i)
came_on n k k' i c h = elim (among_append k.part c.part.0 i (subst (λ xs. IsAmong xs i) c.part.1 h)) [
  | inl a ↦ inl a
  | inr a ↦ inr (among_above n c.part.0 i c.part.2 a)
]

pub entered_before : (n : ℕ) (ks ks' : List Knows) (i : ℕ) → GrowAbove n ks ks' → IsEntered ks' i
    → IsEntered ks i ⊎ (n < i)
entered_before n [] ks' i g h = inr (entered_above n ks' i g h)
entered_before n (k ∷ ks) [] i g h = absurd g
entered_before n (k ∷ ks) (k' ∷ ks') i g (inl h) = elim (came_on n k k' i g.0 h) [
  | inl a ↦ inl (inl a)
  | inr a ↦ inr a
]
entered_before n (k ∷ ks) (k' ∷ ks') i g (inr h) = elim (entered_before n ks ks' i g.1 h) [
  | inl a ↦ inl (inr a)
  | inr a ↦ inr a
]

-- ---- one client's part goes on, or one comes

pub entered_set : (ks : List Knows) (place : ℕ) (k now : Knows) (new : List Numbered) (i : ℕ)
    → slice_get ks place ≡ Some k → now.part ≡ k.part ++ new → IsEntered (slice_set ks place now) i
    → IsEntered ks i ⊎ IsAmong new i
entered_set [] place k now new i at longer h = absurd h
entered_set (j ∷ ks) zero k now new i at longer (inl h) =
    let here : j ≡ k = cc at in
    elim (among_append k.part new i (subst (λ xs. IsAmong xs i) longer h)) [
      | inl a ↦ inl (inl (subst (λ (x : Knows). IsAmong x.part i) (sym here) a))
      | inr a ↦ inr a
    ]
entered_set (j ∷ ks) zero k now new i at longer (inr h) = inl (inr h)
entered_set (j ∷ ks) (suc place) k now new i at longer (inl h) = inl (inl h)
entered_set (j ∷ ks) (suc place) k now new i at longer (inr h) = elim (entered_set ks place k now new i at longer h) [
  | inl a ↦ inl (inr a)
  | inr a ↦ inr a
]

pub entered_push : (ks : List Knows) (k : Knows) (i : ℕ) → IsEntered (ks ++ k ∷ []) i
    → IsEntered ks i ⊎ IsAmong k.part i
entered_push [] k i (inl h) = inr h
entered_push [] k i (inr h) = absurd h
entered_push (j ∷ ks) k i (inl h) = inl (inl h)
entered_push (j ∷ ks) k i (inr h) = elim (entered_push ks k i h) [ inl a ↦ inl (inr a) | inr a ↦ inr a ]

-- ---- each entry stands in its client's part

add_one : (b : Bool) (x : Numbered) (xs : List Numbered) (i : ℕ) → IsAmong xs i → IsAmong (cond b (x ∷ xs) xs) i
add_one true x xs i h = inr h
add_one false x xs i h = h

pub part_has : (before : ℕ) (es : List Entry) (j : ℕ) (e : Entry) → slice_get es j ≡ Some e
    → IsAmong (part_from before e.client es) (before + j + 1)
part_has before [] j e at = absurd (cc at)
part_has before (x ∷ es) zero e at =
    let here : x ≡ e = cc at in
    let mine : (x.client == e.client) ≡ true = eq-eqb x.client e.client (ap (λ (y : Entry). y.client) here) in
    let same : before + 1 ≡ before + zero + 1 = omega arith in
    let rest : List Numbered = part_from (before + 1) e.client es in
    subst (λ b. IsAmong (cond b (numbered (before + 1) x.call x.reply ∷ rest) rest) (before + zero + 1)) (sym mine)
    (inl same)
part_has before (x ∷ es) (suc j) e at =
    let same : before + 1 + j + 1 ≡ before + suc j + 1 = omega arith in
    subst (IsAmong (part_from before e.client (x ∷ es))) same
    (add_one (x.client == e.client) (numbered (before + 1) x.call x.reply) (part_from (before + 1) e.client es)
    (before + 1 + j + 1) (part_has (before + 1) es j e at))

-- so it stands in the part of the client of that number
pub entered_of : (es : List Entry) (ks : List Knows) (c i : ℕ)
    → AllByRecursion (λ (k : Knows). k.part ≡ part_from 0 k.number es) ks → is_in (numbers_of ks) c ≡ true
    → IsAmong (part_from 0 c es) i → IsEntered ks i
entered_of es [] c i parts there h = absurd (cc there)
entered_of es (k ∷ ks) c i parts there h = by (k.number == c) refl there (λ f. entered_of es ks c i parts.1 f h)
  where
    by : (b : Bool) → (k.number == c) ≡ b → (b || is_in (numbers_of ks) c) ≡ true
        → (is_in (numbers_of ks) c ≡ true → IsEntered ks i) → IsEntered (k ∷ ks) i
    by true e f rest = inl (subst (λ xs. IsAmong xs i) (sym parts.0)
        (subst (λ n. IsAmong (part_from 0 n es) i) (sym (eqb-true k.number c e)) h))
    by false e f rest = inr (rest f)
