-- As many clients of a tree as it has, each with a number of its own, are all its clients.
use Rattle.std.specs.Prelude.{◌≡◌, ◌≢◌, ℕ, suc, ◌+◌, ◌*◌, ◌≤◌, ◌==◌, ◌||◌, Bool, true, false, List, [], ◌∷◌, ◌++◌, map}
use Rattle.std.specs.Prelude.{length, Option, Some, None, is_some, refl}
use Rattle.std.specs.List.{AllByRecursion}
use Rattle.std.specs.Cmp.{nat_cmp_total}
use Rattle.std.specs.FinMap.{nat_cmp-IsAntisymmetric}
use Rattle.std.specs.Ordering.{nat_cmp}
use Rattle.std.proofs.Common.{sym, subst, ap, ◌∙◌, arith}
use Rattle.std.proofs.lemmas.Bool.{eq-eqb}
use Rattle.std.proofs.lemmas.List.{append_assoc, append-nil}
use Rattle.ll_rights.specs.Map.{Map, get, has, len, remove}
use Rattle.ll_rights.proofs.Maps.{get-remove_other}
use Rattle.ll_rights.proofs.Sizes.{one_goes}
use Rattle.ll_node.specs.InodeTable.{AreDistinct, NotIn}
use Rattle.ll_laws.proofs.Gain.{no_gain}
use Rattle.ll_laws.proofs.WithheldBytes.{bytes_are_withheld}
use Rattle.ll_seq.specs.History.{IsLegal}
use Rattle.ll_seq.specs.State.{start}
use Rattle.ll_seq.specs.declared.reply.Entry.{Entry}
use Rattle.ll_seq.specs.declared.rules.Rules.{Rules}
use Rattle.ll_seq.proofs.Histories.{legal_early}
use Rattle.ll_laws.specs.Walk.{is_in}
use Rattle.ll_laws.specs.World.{shown}
use Rattle.ll_journal.specs.Book.{Book}
use Rattle.ll_client.specs.declared.account.Account.{Account}
use Rattle.ll_client.specs.Closed.{AreClients, IsClosed, numbers_of}
use Rattle.ll_client.specs.Entries.{AreAccounts, AreInOrder, AreStarved, Knows}
use Rattle.ll_client.specs.Hands.{ClientGoes, HoldsPartIn}
use Rattle.ll_client.proofs.Accounts.{IsClient, one_more}

-- ---- numbers in a map

abbrev AllIn : {X : Type 0} → Map nat_cmp X → List ℕ → Type 0
AllIn m ns = AllByRecursion (λ n. has m n ≡ true) ns

still_in : {X : Type 0} (m : Map nat_cmp X) (k : ℕ) (ns : List ℕ) → NotIn k ns → AllIn m ns → AllIn (remove m k) ns
still_in m k [] apart are = tt
still_in m k (n ∷ ns) apart are = (
  ap is_some (get-remove_other nat_cmp_total nat_cmp-IsAntisymmetric m k n (λ e. apart.0 (sym e))) ∙ are.0,
  still_in m k ns apart.1 are.1,
)

one_fewer : {X : Type 0} (m : Map nat_cmp X) (k : ℕ) → has m k ≡ true → len (remove m k) + 1 ≡ len m
one_fewer {X} m k there = by (get m k) refl
  where
    by : (o : Option X) → get m k ≡ o → len (remove m k) + 1 ≡ len m
    by None e = absurd (cc (sym (ap is_some e) ∙ there))
    by (Some x) e = one_goes m k x e

at_most : {X : Type 0} (m : Map nat_cmp X) (ns : List ℕ) → AreDistinct ns → AllIn m ns → length ns ≤ len m
at_most m [] once are = omega arith
at_most m (n ∷ ns) once are =
    let less = at_most (remove m n) ns once.1 (still_in m n ns once.0 are.1) in
    let one = one_fewer m n are.0 in
    omega (arith, less, one)

found_same : (n k : ℕ) (ns : List ℕ) → k ≡ n → is_in (n ∷ ns) k ≡ true
found_same n k ns same = ap (λ (b : Bool). b || is_in ns k) (eq-eqb n k (sym same))

later : (n k : ℕ) (ns : List ℕ) → is_in (n ∷ ns) k ≡ false → is_in ns k ≡ false
later n k ns e = by (n == k) e
  where
    by : (b : Bool) → (b || is_in ns k) ≡ false → is_in ns k ≡ false
    by true f = absurd (cc f)
    by false f = f

not_in_is : (ns : List ℕ) (k : ℕ) → is_in ns k ≡ false → NotIn k ns
not_in_is [] k e = tt
not_in_is (n ∷ ns) k e = (apart, not_in_is ns k rest)
  where
    apart : k ≢ n
    apart same = cc (sym (found_same n k ns same) ∙ e)

    rest : is_in ns k ≡ false
    rest = later n k ns e

pub all_of : {X : Type 0} (m : Map nat_cmp X) (ns : List ℕ) → AreDistinct ns → AllIn m ns → length ns ≡ len m
    → (c : ℕ) → has m c ≡ true → is_in ns c ≡ true
all_of m ns once are count c there = by (is_in ns c) refl
  where
    by : (b : Bool) → is_in ns c ≡ b → is_in ns c ≡ true
    by true e = e
    by false e =
        let apart = not_in_is ns c e in
        let less = at_most (remove m c) ns once (still_in m c ns apart are) in
        let one = one_fewer m c there in
        absurd (omega (arith, less, one, count))

-- ---- passes taken back, one after the other

abbrev AreGone : Map nat_cmp Account → List Knows → Type 0
AreGone m ks = AllByRecursion (λ k. get m (3 * k.number + 1) ≡ None) ks

pub record Settled (b : Book) (m : Map nat_cmp Account) (ks : List Knows) : Type 0 where
  pub all : AreAccounts b m
  pub parts : AllByRecursion (HoldsPartIn b.world) ks
  pub once : AreDistinct (numbers_of ks)
  pub there : AllByRecursion (λ k. has (shown b.world).clients k.number ≡ true) ks
  pub gone : AreGone m ks

pub none_settled : (b : Book) (m : Map nat_cmp Account) → AreAccounts b m → Settled b m []
none_settled b m all = record { all = all; parts = tt; once = tt; there = tt; gone = tt }

-- it is none of those that went before
apart_from : (m : Map nat_cmp Account) (k : Knows) (ks : List Knows) → get m (3 * k.number + 1) ≢ None → AreGone m ks
    → AllByRecursion (λ (j : Knows). j.number ≢ k.number) ks
apart_from m k [] was gone = tt
apart_from m k (j ∷ ks) was gone = (
  (λ same. was (ap (λ n. get m (3 * n + 1)) (sym same) ∙ gone.0)),
  apart_from m k ks was gone.1,
)

still_gone : (m n : Map nat_cmp Account) (c : ℕ) → ClientGoes c m n → (ks : List Knows)
    → AllByRecursion (λ (j : Knows). j.number ≢ c) ks → AreGone m ks → AreGone n ks
still_gone m n c g [] apart gone = tt
still_gone m n c g (j ∷ ks) apart gone =
    (g.others j.number apart.0 ∙ gone.0, still_gone m n c g ks apart.1 gone.1)

not_pushed : (j : ℕ) (k : Knows) (ks : List Knows) → j ≢ k.number → NotIn j (numbers_of ks)
    → NotIn j (numbers_of (ks ++ k ∷ []))
not_pushed j k [] apart other = (apart, tt)
not_pushed j k (i ∷ ks) apart other = (other.0, not_pushed j k ks apart other.1)

pushed : (k : Knows) (ks : List Knows) → AllByRecursion (λ (j : Knows). j.number ≢ k.number) ks
    → AreDistinct (numbers_of ks) → AreDistinct (numbers_of (ks ++ k ∷ []))
pushed k [] apart once = (tt, tt)
pushed k (j ∷ ks) apart once = (not_pushed j.number k ks apart.0 once.0, pushed k ks apart.1 once.1)

pub one_settled : (b : Book) (m n : Map nat_cmp Account) (ks : List Knows) (k : Knows) → Settled b m ks
    → ClientGoes k.number m n → AreAccounts b n → IsClient b k.number k.part k.seen k.doing
    → AreStarved b.world k.number k.starved → Settled b n (ks ++ k ∷ [])
one_settled b m n ks k s g all known starved =
    let apart = apart_from m k ks g.was s.gone in
    record {
      all = all;
      parts = one_more (HoldsPartIn b.world) ks k s.parts (known.part_is, starved, known.low);
      once = pushed k ks apart s.once;
      there = one_more (λ (j : Knows). has (shown b.world).clients j.number ≡ true) ks k s.there known.there;
      gone = one_more (λ (j : Knows). get n (3 * j.number + 1) ≡ None) ks k (still_gone m n k.number g ks apart s.gone)
          g.gone;
    }

-- one more of a list is known, and at its end all are
pub map_next : {A : Type 0} (f : A → Knows) (all ks : List Knows) (xs rest : List A) (x : A) → all ≡ ks ++ map f xs
    → xs ≡ x ∷ rest → all ≡ (ks ++ f x ∷ []) ++ map f rest
map_next f all ks xs rest x is cut =
    is ∙ ap (λ ys. ks ++ map f ys) cut ∙ sym (append_assoc ks (f x ∷ []) (map f rest))

pub map_last : {A : Type 0} (f : A → Knows) (all ks : List Knows) (xs : List A) → all ≡ ks ++ map f xs → xs ≡ []
    → ks ≡ all
map_last f all ks xs is none = sym (is ∙ ap (λ ys. ks ++ map f ys) none ∙ append-nil ks)

pub count_mapped : {A : Type 0} (f : A → Knows) (xs : List A) → length (map f xs) ≡ length xs
count_mapped f [] = refl
count_mapped f (x ∷ xs) = ap suc (count_mapped f xs)

-- and they are all
count_numbers : (ks : List Knows) → length (numbers_of ks) ≡ length ks
count_numbers [] = refl
count_numbers (k ∷ ks) = ap suc (count_numbers ks)

there_numbers : (b : Book) (ks : List Knows) → AllByRecursion (λ k. has (shown b.world).clients k.number ≡ true) ks
    → AllIn (shown b.world).clients (numbers_of ks)
there_numbers b [] h = tt
there_numbers b (k ∷ ks) h = (h.0, there_numbers b ks h.1)

pub all_clients : (b : Book) (ks : List Knows) → AllByRecursion (HoldsPartIn b.world) ks
    → AreDistinct (numbers_of ks) → AllByRecursion (λ k. has (shown b.world).clients k.number ≡ true) ks
    → length ks ≡ len (shown b.world).clients
    → AreClients b.world.rules b.world.room b.world.limit b.world.history ks
all_clients b ks parts once there count = record {
  parts = parts;
  once = once;
  there = there;
  all = all_of (shown b.world).clients (numbers_of ks) once (there_numbers b ks there) (count_numbers ks ∙ count);
}

pub closed : (rules : Rules) (room limit : ℕ) (history : List Entry) (ks : List Knows)
    → IsLegal (start rules room) history → AreClients rules room limit history ks → length history ≤ limit
    → AreInOrder rules room history → IsClosed rules room limit history ks
closed rules room limit history ks legal clients within numbered = record {
  legal = legal;
  clients = clients;
  between = λ early late rest is.
      let whole = legal_early (start rules room) (early ++ late) rest
      (subst (IsLegal (start rules room)) is legal) in
      (no_gain rules room early late whole, bytes_are_withheld rules room early late whole);
  within = within;
  numbered = numbered;
}
