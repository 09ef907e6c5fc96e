-- A client that is spawned, as the code makes it.
use Rattle.std.specs.Prelude.{◌≡◌, ℕ, zero, suc, ◌+◌, ◌-◌, ◌<◌, false, List, [], ◌∷◌, ◌++◌, length, Some, None}
use Rattle.std.specs.Prelude.{slice_index_or}
use Rattle.std.specs.Ordering.{nat_cmp}
use Rattle.std.proofs.Common.{sym, subst, ap, ◌∙◌, arith, length-append}
use Rattle.std.proofs.lemmas.Option.{slice_get-get_or}
use Rattle.ll_rights.specs.Map.{Map, get, has}
use Rattle.ll_seq.specs.declared.client.ClientRecord.{ClientRecord}
use Rattle.ll_seq.specs.declared.client.Descriptor.{Descriptor}
use Rattle.ll_node.specs.InodeTable.{Table}
use Rattle.ll_seq.specs.declared.rules.Rules.{Rules}
use Rattle.ll_seq.specs.State.{State}
use Rattle.ll_seq.specs.Effects.{with_client, child_of}
use Rattle.ll_seq.specs.Facts.{AreKept}
use Rattle.ll_journal.specs.Book.{Seat}
use Rattle.ll_journal.specs.Own.{Spawns}

last_index : (seats : List Seat) (x d : Seat) (n : ℕ) → n ≡ length seats → slice_index_or (seats ++ x ∷ []) n d ≡ x
last_index [] x d n e = ap (λ k. slice_index_or (x ∷ []) k d) e
last_index (z ∷ seats) x d zero e = absurd (cc e)
last_index (z ∷ seats) x d (suc n) e = last_index seats x d n (omega (arith, e))

module _ (rules : Rules) (place : ℕ) (seats : List Seat) (table : Table) (number : ℕ) (seats' : List Seat)
    (middle table' : Table)
    (parent : Seat) (child : ClientRecord) (within : place < length seats)
    (is : parent ≡ slice_index_or seats place parent) (born : child ≡ child_of rules parent.client)
    (numbered : number ≡ length seats + 1)
    (seated : (spare : ℕ) × (table.free ≡ middle.free ++ spare ∷ [])
    × (seats' ≡ seats ++ record { client = child; spare = spare; walk = None } ∷ [])) where
  pub spawns : (len : ℕ) (last : Seat) (descriptors : Map nat_cmp Descriptor) → len ≡ length seats'
      → last ≡ slice_index_or seats' (len - 1) last → descriptors ≡ last.client.descriptors
      → ((s : State) (client : ℕ) (c : ClientRecord) (fresh : ℕ) → AreKept s middle.facts
      → get s.clients client ≡ Some c → has s.clients fresh ≡ false → (child_of s.rules c).descriptors ≡ descriptors
      → AreKept (with_client s fresh (child_of s.rules c)) table'.facts)
      → middle ≡ record table { free = middle.free } → table' ≡ record middle { facts = table'.facts }
      → Spawns rules place seats table number seats' table'
  spawns len last descriptors many at told counted first then = record {
    parent = parent;
    there = slice_get-get_or seats place parent within ∙ ap Some (sym is);
    numbered = numbered;
    spare = seated.0;
    free-is = seated.1 ∙ ap (λ (t : Table). t.free ++ seated.0 ∷ []) (sym then);
    seats-are = seated.2 ∙ ap (λ c. seats ++ record { client = c; spare = seated.0; walk = None } ∷ []) born;
    facts-are = λ s client kept same there unknown.
        subst (λ r. AreKept (with_client s number (child_of r parent.client)) table'.facts) same
        (counted s client parent.client number (subst (AreKept s) (ap (λ (t : Table). t.facts) (sym first)) kept) there
        unknown (ap (λ r. (child_of r parent.client).descriptors) same ∙ sym own));
    rest-is = then ∙ ap (λ (t : Table). record t { facts = table'.facts }) first
        ∙ ap (λ ks. record table { facts = table'.facts; free = ks }) (ap (λ (t : Table). t.free) (sym then));
  }
    where
      new : Seat
      new = record { client = child; spare = seated.0; walk = None }

      place_is : len - 1 ≡ length seats
      place_is = let n = many ∙ ap length seated.2 ∙ length-append seats (new ∷ []) in omega (arith, n)

      newest : last ≡ new
      newest = at ∙ ap (λ xs. slice_index_or xs (len - 1) last) seated.2 ∙ last_index seats new last (len - 1) place_is

      own : descriptors ≡ (child_of rules parent.client).descriptors
      own = told ∙ ap (λ (x : Seat). x.client.descriptors) newest ∙ ap (λ (c : ClientRecord). c.descriptors) born
