-- What holds of all that a client knows at the end held of what it knew before.
use Rattle.std.specs.Prelude.{◌≡◌, ℕ, zero, suc, ◌+◌, ◌==◌, Bool, true, false, cond, List, [], ◌∷◌}
use Rattle.std.specs.Prelude.{◌++◌, length, Some, slice_get, slice_set, refl}
use Rattle.std.specs.List.{AllByRecursion}
use Rattle.std.proofs.Common.{ap, subst, arith}
use Rattle.std.proofs.lemmas.Bool.{eqb-true}
use Rattle.ll_seq.specs.declared.reply.Entry.{Entry}
use Rattle.ll_client.specs.Entries.{Knows, numbered, part_from}
use Rattle.ll_client.specs.declared.account.Numbered.{Numbered}
use Rattle.ll_session.specs.Growth.{ComesOn, GrowAbove}

pub all_first : {A : Type 0} (P : A → Type 0) (xs ys : List A) → AllByRecursion P (xs ++ ys) → AllByRecursion P xs
all_first P [] ys all = tt
all_first P (x ∷ xs) ys all = (all.0, all_first P xs ys all.1)

pub last_of : {A : Type 0} (P : A → Type 0) (xs : List A) (x : A) → AllByRecursion P (xs ++ x ∷ []) → P x
last_of P [] x all = all.0
last_of P (y ∷ xs) x all = last_of P xs x all.1

pub all_at : {A : Type 0} (P : A → Type 0) (xs : List A) (i : ℕ) (x : A) → AllByRecursion P xs
    → slice_get xs i ≡ Some x → P x
all_at P [] i x all at = absurd (cc at)
all_at P (y ∷ xs) zero x all at = let here : y ≡ x = cc at in subst P here all.0
all_at P (y ∷ xs) (suc i) x all at = all_at P xs i x all.1 at

pub all_set : {A : Type 0} (P : A → Type 0) (xs : List A) (i : ℕ) (x : A) → AllByRecursion P xs → P x
    → AllByRecursion P (slice_set xs i x)
all_set P [] i x all h = tt
all_set P (y ∷ xs) zero x all h = (h, all.1)
all_set P (y ∷ xs) (suc i) x all h = (all.0, all_set P xs i x all.1 h)

pub all_push : {A : Type 0} (P : A → Type 0) (xs : List A) (x : A) → AllByRecursion P xs → P x
    → AllByRecursion P (xs ++ x ∷ [])
all_push P [] x all h = (h, tt)
all_push P (y ∷ xs) x all h = (all.0, all_push P xs x all.1 h)

pub all_map : {A : Type 0} (P Q : A → Type 0) (xs : List A) → ((x : A) → P x → Q x) → AllByRecursion P xs
    → AllByRecursion Q xs
all_map P Q [] f all = tt
all_map P Q (x ∷ xs) f all = (f x all.0, all_map P Q xs f all.1)

pub set_there : {A : Type 0} (xs : List A) (i : ℕ) (x y : A) → slice_get xs i ≡ Some x
    → slice_get (slice_set xs i y) i ≡ Some y
set_there [] i x y at = absurd (cc at)
set_there (z ∷ xs) zero x y at = refl
set_there (z ∷ xs) (suc i) x y at = set_there xs i x y at

pub push_there : {A : Type 0} (xs : List A) (y : A) → slice_get (xs ++ y ∷ []) (length xs) ≡ Some y
push_there [] y = refl
push_there (x ∷ xs) y = push_there xs y

pub first_there : {A : Type 0} (xs ys : List A) (i : ℕ) (x : A) → slice_get xs i ≡ Some x
    → slice_get (xs ++ ys) i ≡ Some x
first_there [] ys i x at = absurd (cc at)
first_there (z ∷ xs) ys zero x at = at
first_there (z ∷ xs) ys (suc i) x at = first_there xs ys i x at

-- ---- clients that have come on

pub still_there : (n : ℕ) (ks ks' : List Knows) (place : ℕ) (k : Knows) → GrowAbove n ks ks'
    → slice_get ks place ≡ Some k → (k' : Knows) × (slice_get ks' place ≡ Some k') × ComesOn n k k'
still_there n [] ks' place k g at = absurd (cc at)
still_there n (j ∷ ks) [] place k g at = absurd g
still_there n (j ∷ ks) (j' ∷ ks') zero k g at = let here : j ≡ k = cc at in
    (j', refl, subst (λ (x : Knows). ComesOn n x j') here g.0)
still_there n (j ∷ ks) (j' ∷ ks') (suc place) k g at = still_there n ks ks' place k g.1 at

-- ---- what a client's part tells is an entry

-- so it is in the history
abbrev pub IsEntry : List Entry → ℕ → Numbered → Type 0
IsEntry history client x = (j : ℕ) × (x.number ≡ j + 1)
    × (slice_get history j ≡ Some (record { client = client; call = x.call; reply = x.reply }))

abbrev IsOneOf : ℕ → ℕ → List Entry → Numbered → Type 0
IsOneOf before client es x = (j : ℕ) × (x.number ≡ before + j + 1)
    × (slice_get es j ≡ Some (record { client = client; call = x.call; reply = x.reply }))

one_later : (before client : ℕ) (e : Entry) (es : List Entry) (x : Numbered) → IsOneOf (before + 1) client es x
    → IsOneOf before client (e ∷ es) x
one_later before client e es x h = let is = h.1 in (suc h.0, omega arith, h.2)

part_true : (before client : ℕ) (es : List Entry)
    → AllByRecursion (IsOneOf before client es) (part_from before client es)
part_true before client [] = tt
part_true before client (e ∷ es) = by (e.client == client) refl
    (all_map (IsOneOf (before + 1) client es) (IsOneOf before client (e ∷ es)) (part_from (before + 1) client es)
    (one_later before client e es) (part_true (before + 1) client es))
  where
    by : (b : Bool) → (e.client == client) ≡ b
        → AllByRecursion (IsOneOf before client (e ∷ es)) (part_from (before + 1) client es)
        → AllByRecursion (IsOneOf before client (e ∷ es))
        (cond b (numbered (before + 1) e.call e.reply ∷ part_from (before + 1) client es)
        (part_from (before + 1) client es))
    by true is rest =
        let same : e.client ≡ client = eqb-true e.client client is in
        ((zero, omega arith, ap (λ c. Some (record { client = c; call = e.call; reply = e.reply })) same), rest)
    by false is rest = rest

pub part_entries : (client : ℕ) (es : List Entry) → AllByRecursion (IsEntry es client) (part_from 0 client es)
part_entries client es = all_map (IsOneOf 0 client es) (IsEntry es client) (part_from 0 client es)
    (λ x h. (h.0, let is = h.1 in omega arith, h.2)) (part_true 0 client es)
