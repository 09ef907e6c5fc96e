-- Clients that come on, step by step.
use Rattle.std.specs.Prelude.{◌≡◌, ℕ, zero, suc, ◌<◌, ◌≤◌, List, [], ◌∷◌, ◌++◌, Some, slice_get, slice_set, refl}
use Rattle.std.specs.List.{AllByRecursion}
use Rattle.std.proofs.Common.{sym, ap, subst, ◌∙◌, arith, append_assoc}
use Rattle.std.proofs.lemmas.List.{append-nil}
use Rattle.ll_client.specs.Entries.{Knows}
use Rattle.ll_client.specs.declared.account.Numbered.{Numbered}
use Rattle.ll_session.specs.Growth.{AreAbove, ComesOn, GrowAbove, Grows}
use Rattle.ll_session.specs.Talk.{seen_by}
use Rattle.ll_session.proofs.KeptParts.{all_map}
use Rattle.ll_session.proofs.Seen.{seen_push, seen_set}

stays : (n : ℕ) (k : Knows) → ComesOn n k k
stays n k = record {
  number = refl;
  part = ([], sym (append-nil k.part), tt);
  starved = ([], sym (append-nil k.starved));
}

pub all_stay : (n : ℕ) (ks : List Knows) → GrowAbove n ks ks
all_stay n [] = tt
all_stay n (k ∷ ks) = (stays n k, all_stay n ks)

pub stays_so : (ks : List Knows) → Grows ks ks
stays_so ks = (all_stay (seen_by ks) ks, omega arith)

-- ---- one after the other

higher : (m n : ℕ) (xs : List Numbered) → m ≤ n → AreAbove n xs → AreAbove m xs
higher m n xs le all = all_map (λ (x : Numbered). n < x.number) (λ (x : Numbered). m < x.number) xs
    (λ x h. omega arith) all

both_above : (n : ℕ) (xs ys : List Numbered) → AreAbove n xs → AreAbove n ys → AreAbove n (xs ++ ys)
both_above n [] ys all more = more
both_above n (x ∷ xs) ys all more = (all.0, both_above n xs ys all.1 more)

abbrev PartsAbove : ℕ → List Knows → Type 0
PartsAbove n ks = AllByRecursion (λ (k : Knows). AreAbove n k.part) ks

goes_on : (m n : ℕ) (i j k : Knows) → m ≤ n → ComesOn m i j → ComesOn n j k → ComesOn m i k
goes_on m n i j k le one two = record {
  number = two.number ∙ one.number;
  part = (
    one.part.0 ++ two.part.0,
    two.part.1 ∙ ap (λ xs. xs ++ two.part.0) one.part.1 ∙ append_assoc i.part one.part.0 two.part.0,
    both_above m one.part.0 two.part.0 one.part.2 (higher m n two.part.0 le two.part.2),
  );
  starved = (
    one.starved.0 ++ two.starved.0,
    two.starved.1 ∙ ap (λ xs. xs ++ two.starved.0) one.starved.1
        ∙ append_assoc i.starved one.starved.0 two.starved.0,
  );
}

new_above : (m n : ℕ) (js ks : List Knows) → m ≤ n → PartsAbove m js → GrowAbove n js ks → PartsAbove m ks
new_above m n [] ks le all g = all_map (λ (k : Knows). AreAbove n k.part) (λ (k : Knows). AreAbove m k.part) ks
    (λ k h. higher m n k.part le h) g
new_above m n (j ∷ js) [] le all g = absurd g
new_above m n (j ∷ js) (k ∷ ks) le all g = (
  subst (AreAbove m) (sym g.0.part.1)
      (both_above m j.part g.0.part.0 all.0 (higher m n g.0.part.0 le g.0.part.2)),
  new_above m n js ks le all.1 g.1,
)

grow_on : (m n : ℕ) (is js ks : List Knows) → m ≤ n → GrowAbove m is js → GrowAbove n js ks → GrowAbove m is ks
grow_on m n [] js ks le one two = new_above m n js ks le one two
grow_on m n (i ∷ is) [] ks le one two = absurd one
grow_on m n (i ∷ is) (j ∷ js) [] le one two = absurd two
grow_on m n (i ∷ is) (j ∷ js) (k ∷ ks) le one two =
    (goes_on m n i j k le one.0 two.0, grow_on m n is js ks le one.1 two.1)

pub then_grows : (is js ks : List Knows) → Grows is js → Grows js ks → Grows is ks
then_grows is js ks one two =
    let first = one.1 in
    let second = two.1 in
    (grow_on (seen_by is) (seen_by js) is js ks one.1 one.0 two.0, omega arith)

-- ---- by one

one_set : (n : ℕ) (ks : List Knows) (place : ℕ) (k now : Knows) → slice_get ks place ≡ Some k → ComesOn n k now
    → GrowAbove n ks (slice_set ks place now)
one_set n [] place k now at c = absurd (cc at)
one_set n (j ∷ ks) zero k now at c = let here : k ≡ j = cc at in
    (subst (λ (x : Knows). ComesOn n x now) here c, all_stay n ks)
one_set n (j ∷ ks) (suc place) k now at c = (stays n j, one_set n ks place k now at c)

one_push : (n : ℕ) (ks ks' : List Knows) (k : Knows) → GrowAbove n ks ks' → AreAbove n k.part
    → GrowAbove n ks (ks' ++ k ∷ [])
one_push n [] [] k g above = (above, tt)
one_push n [] (k' ∷ ks') k g above = (g.0, one_push n [] ks' k g.1 above)
one_push n (j ∷ ks) [] k g above = absurd g
one_push n (j ∷ ks) (k' ∷ ks') k g above = (g.0, one_push n ks ks' k g.1 above)

pub grows_set : (ks : List Knows) (place : ℕ) (k now : Knows) → slice_get ks place ≡ Some k
    → ComesOn (seen_by ks) k now → seen_by ks ≤ now.seen → Grows ks (slice_set ks place now)
grows_set ks place k now at c later =
    let same = seen_set ks place k now at later in
    (one_set (seen_by ks) ks place k now at c, omega arith)

pub grows_push : (ks ks' : List Knows) (k : Knows) → Grows ks ks' → AreAbove (seen_by ks) k.part
    → seen_by ks' ≤ k.seen → Grows ks (ks' ++ k ∷ [])
grows_push ks ks' k g above later =
    let same = seen_push ks' k later in
    let first = g.1 in
    (one_push (seen_by ks) ks ks' k g.0 above, omega arith)
