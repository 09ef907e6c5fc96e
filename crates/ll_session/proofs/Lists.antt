-- What contracts see of a list of clients, when one of them has come on, or one more has come.
use Rattle.std.specs.Prelude.{◌≡◌, ◌≢◌, ℕ, ◌+◌, ◌<◌, ◌≤◌, ◌==◌, false, List, [], ◌∷◌, ◌++◌, length, map}
use Rattle.std.specs.Prelude.{None, Some, option_map, slice_get, slice_index_or, slice_set}
use Rattle.std.proofs.Common.{sym, ap, subst, ◌∙◌, inl, inr, arith}
use Rattle.std.proofs.lemmas.Bool.{false≢true}
use Rattle.std.proofs.lemmas.List.{length-map, length-set, length_push, map-append, map-set}
use Rattle.std.proofs.lemmas.Option.{slice_get-get_or, slice_get-map, slice_get_within}
use Rattle.ll_seq.specs.declared.call.Call.{Call}
use Rattle.ll_seq.specs.declared.call.Call.TheVariants.{Connect, Spawn}
use Rattle.ll_seq.specs.declared.reply.Reply.TheVariants.{Done, Spawned}
use Rattle.ll_seq.specs.History.{is_connect}
use Rattle.ll_journal.specs.declared.direct.Made.{Made}
use Rattle.ll_client.specs.Gains.{Gains, Told}
use Rattle.ll_client.specs.Replies.{success}
use Rattle.ll_client.specs.Entries.{Knows, knows, numbered}
use Rattle.ll_seq.specs.declared.reply.Reply.{Reply}
use Rattle.ll_session.specs.Talk.{Asks, AsksFor, IsLast, IsMet, Joins, LooksAt, Spawns, is_birth, met, seen_by}
use Rattle.ll_session.proofs.Acts.{asks_so, looks_last, push_last, spawns_so, told_last, told_seen}
use Rattle.ll_session.proofs.Meetings.{last_knows, set_same}

some_there : {A : Type 0} (xs : List A) (n : ℕ) → n ≡ length xs → (n == 0) ≡ false → 0 < length xs
some_there [] n size is = absurd (false≢true (sym is ∙ ap (λ m. m == 0) size))
some_there (x ∷ xs) n size is = omega arith

-- where somebody is there, the last one is
pub last_within : {A : Type 0} (f : A → Knows) (xs : List A) (n last : ℕ) → n ≡ length xs → (n == 0) ≡ false
    → IsLast (map f xs) last → last < length xs
last_within f xs n last size is (inl none) =
    let some = some_there xs n size is in
    let mapped = length-map xs f in
    let empty = ap length none in
    absurd (omega (arith, mapped, empty, some))
last_within f xs n last size is (inr l) =
    let mapped = length-map xs f in
    let within = slice_get_within (map f xs) last l.0 l.1 in
    omega (arith, mapped, within)

pub last_there : {A : Type 0} (f : A → Knows) (xs : List A) (ks : List Knows) (last : ℕ) → map f xs ≡ ks
    → 0 < length ks → IsLast (map f xs) last → last < length xs
last_there f xs ks last view some (inl none) =
    let empty = ap length none in
    let same = ap length view in
    absurd (omega (arith, empty, same, some))
last_there f xs ks last view some (inr l) =
    let mapped = length-map xs f in
    let within = slice_get_within (map f xs) last l.0 l.1 in
    omega (arith, mapped, within)

module _ {A : Type 0} (f : A → Knows) (xs : List A) (i : ℕ) (x : A) (there : x ≡ slice_index_or xs i x)
    (within : i < length xs)
  where
    pub at_place : slice_get (map f xs) i ≡ Some (f x)
    at_place = slice_get-map f xs i
        ∙ ap (option_map f) (slice_get-get_or xs i x within ∙ ap (λ z. Some z) (sym there))

    pub still_same : (x' : A) → f x' ≡ f x → map f (slice_set xs i x') ≡ map f xs
    still_same x' same = map-set f xs i x' ∙ ap (λ k. slice_set (map f xs) i k) same
        ∙ set_same (map f xs) i (f x) at_place

    pub last_seen : IsLast (map f xs) i → (f x).seen ≡ seen_by (map f xs)
    last_seen is_last = last_knows (map f xs) i (f x) is_last at_place

    pub looked_at : (x' : A) → IsLast (map f xs) i → (f x).seen ≤ (f x').seen
        → f x' ≡ record (f x) { seen = (f x').seen } → LooksAt (map f xs) i (map f (slice_set xs i x'))
    looked_at x' is_last later same = record {
      me = f x;
      seen = (f x').seen;
      at = at_place;
      later = let all = last_seen is_last in omega (arith, all, later);
      after = map-set f xs i x' ∙ ap (λ k. slice_set (map f xs) i k) same;
    }

    pub last_again : (x' : A) → IsLast (map f xs) i → (f x).seen ≤ (f x').seen
        → f x' ≡ record (f x) { seen = (f x').seen } → IsLast (map f (slice_set xs i x')) i
    last_again x' is_last later same =
        looks_last (map f xs) (map f (slice_set xs i x')) i (looked_at x' is_last later same)

pub pushed_last : {A : Type 0} (f : A → Knows) (ks : List Knows) (xs ys : List A) (x : A) (n : ℕ) → map f xs ≡ ks
    → ys ≡ xs ++ x ∷ [] → seen_by ks ≤ (f x).seen → n ≡ length xs → IsLast (map f ys) n
pushed_last f ks xs ys x n view is later size =
    let same = ap seen_by view in
    subst (λ m. IsLast (map f ys) m) (length-map xs f ∙ sym size)
    (push_last (map f xs) (map f ys) (f x) (omega (arith, same, later)) (ap (map f) is ∙ map-append f xs (x ∷ [])))

-- whoever has connected after all of them joins them
pub joins_them : (js is ks : List Knows) (k : Knows) → is ≡ js → ks ≡ is ++ k ∷ []
    → k ≡ knows k.number (numbered k.seen Connect Done ∷ []) [] k.seen None → seen_by js < k.seen
    → Joins js k.number ks
joins_them js is ks k same pushes new later = record {
  seen = k.seen;
  later = later;
  after = pushes ∙ (λ n. same n ++ new n ∷ []);
}

-- ---- the client at this place has met all of them

module _ {A : Type 0} (f : A → Knows) (ks mid : List Knows) (xs : List A) (place : ℕ) (x : A)
    (view : map f xs ≡ mid) (m : IsMet ks place mid) (there : x ≡ slice_index_or xs place x)
  where
    met_within : place < length xs
    met_within =
        let size = sym (length-map xs f) ∙ ap length (view ∙ m.2) ∙ length-set ks place (met ks m.0) in
        let within = slice_get_within ks place m.0 m.1 in
        omega (arith, size, within)

    met_there : slice_get mid place ≡ Some (f x)
    met_there = subst (λ l. slice_get l place ≡ Some (f x)) view (at_place f xs place x there met_within)

    set_view : (x' : A) → map f (slice_set xs place x') ≡ slice_set mid place (f x')
    set_view x' = map-set f xs place x' ∙ ap (λ l. slice_set l place (f x')) view

    pub asks_them : (limit : ℕ) (call : Call) (it : Made) (x' : A) → is_connect call ≡ false → is_birth it ≡ false
        → Gains limit call (f x) it (f x') → Asks limit ks place call it (map f (slice_set xs place x'))
    asks_them limit call it x' other none gains =
        asks_so ks mid place m (f x) met_there limit call it (f x') (map f (slice_set xs place x')) other none gains
        (set_view x')

    pub spawns_them : (child : ℕ) (x' : A) (k : Knows) (ks' : List Knows)
        → Told Spawn (Spawned child) (f x) (f x') → k ≡ knows child [] [] (f x').seen None
        → ks' ≡ map f (slice_set xs place x') ++ k ∷ [] → Spawns ks place child ks'
    spawns_them child x' k ks' told new is =
        spawns_so ks mid place m (f x) met_there child (f x') ks' told (is ∙ (λ n. set_view x' n ++ new n ∷ []))

    pub parent_last : (x' : A) → (f x).seen < (f x').seen → IsLast (map f (slice_set xs place x')) place
    parent_last x' later =
        told_last ks mid place m (f x) met_there (f x') (map f (slice_set xs place x')) later (set_view x')

    pub parent_seen : (x' : A) → (f x).seen < (f x').seen → seen_by (map f (slice_set xs place x')) ≡ (f x').seen
    parent_seen x' later =
        told_seen ks mid place m (f x) met_there (f x') (map f (slice_set xs place x')) later (set_view x')

-- ---- calls that bring nobody

pub no_spawn : (call : Call) → success call (Spawned 0) ≡ false → call ≢ Spawn
no_spawn call none same = false≢true (sym none ∙ ap (λ (it : Call). success it (Spawned 0)) same)

-- ---- how many they are then

pub asks_count : (limit : ℕ) (ks ks' : List Knows) (place : ℕ) (call : Call) (it : Made)
    → Asks limit ks place call it ks' → length ks' ≡ length ks
asks_count limit ks ks' place call it a = ap length a.after ∙ length-set ks place a.now

pub push_count : (ks ks' : List Knows) (k : Knows) → ks' ≡ ks ++ k ∷ [] → length ks' ≡ length ks + 1
push_count ks ks' k is = ap length is ∙ length_push ks k

pub spawns_count : (ks ks' : List Knows) (place child : ℕ) → Spawns ks place child ks' → length ks' ≡ length ks + 1
spawns_count ks ks' place child a =
    push_count (slice_set ks place a.now) ks' (knows child [] [] a.now.seen None) a.after
    ∙ ap (λ n. n + 1) (length-set ks place a.now)

-- one more at most
pub asks_for_count : (limit : ℕ) (ks ks' : List Knows) (place : ℕ) (call : Call) (reply : Reply)
    → AsksFor limit ks place call reply ks' → (length ks ≤ length ks') × (length ks' ≤ length ks + 1)
asks_for_count limit ks ks' place call reply (inl child) =
    let one = spawns_count ks ks' place child.0 child.2 in (omega (arith, one), omega (arith, one))
asks_for_count limit ks ks' place call reply (inr it) =
    let same = asks_count limit ks ks' place call it.0 it.1 in (omega (arith, same), omega (arith, same))
