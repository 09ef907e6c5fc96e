-- The table of inodes, where clients come or change.
use Rattle.std.specs.Prelude.{◌≡◌, ℕ, [], ◌∷◌, ◌++◌, List, length}
use Rattle.std.proofs.Common.{sym, subst, ap, ◌∙◌, arith, length-append}
use Rattle.std.proofs.lemmas.List.{length-map}
use Rattle.std.specs.List.{AllByRecursion}
use Rattle.ll_seq.specs.declared.client.ClientRecord.{ClientRecord}
use Rattle.ll_seq.specs.State.{State}
use Rattle.ll_seq.specs.Effects.{with_client}
use Rattle.ll_seq.specs.Facts.{AreKept}
use Rattle.ll_node.specs.InodeTable.{Table, IsTable, IsVacant, AreDistinct}
use Rattle.ll_journal.specs.Book.{Seat}
use Rattle.ll_journal.specs.Kept.{spares_of}
use Rattle.ll_node.proofs.SlotLists.{all_more, all_less}
use Rattle.ll_journal.proofs.NewClients.{distinct_moved}

module _ (s : State) (number : ℕ) (c : ClientRecord) (spares : List ℕ) (t : Table) (is : IsTable s spares t) where
  -- a client's record is another
  pub table_client : AreKept (with_client s number c) t.facts → IsTable (with_client s number c) spares t
  table_client facts = record {
    facts = facts;
    next = is.next;
    placed = is.placed;
    living = is.living;
    slots = is.slots;
    free = is.free;
    spares = is.spares;
    distinct = is.distinct;
    count = is.count;
    few = is.few;
  }

  -- a client more keeps the last of the free slots
  pub table_more : (slot : ℕ) (t' : Table) → t.free ≡ t'.free ++ slot ∷ []
      → t' ≡ record t { facts = t'.facts; free = t'.free } → AreKept (with_client s number c) t'.facts
      → IsTable (with_client s number c) (spares ++ slot ∷ []) t'
  table_more slot t' free rest facts =
      subst (IsTable (with_client s number c) (spares ++ slot ∷ [])) (sym rest) (record {
        facts = facts;
        next = is.next;
        placed = is.placed;
        living = is.living;
        slots = is.slots;
        free = vacant.0;
        spares = all_more (IsVacant t.inodes) spares slot is.spares vacant.1;
        distinct = distinct_moved t'.free spares slot (subst (λ ks. AreDistinct (ks ++ spares)) free is.distinct);
        count = let one = ap length free ∙ length-append t'.free (slot ∷ []) in let more =
            length-append spares (slot ∷ []) in let sum = is.count in omega (arith, one, more, sum);
        few = is.few;
      })
    where
      vacant : AllByRecursion (IsVacant t.inodes) t'.free × IsVacant t.inodes slot
      vacant = all_less (IsVacant t.inodes) t'.free slot (subst (AllByRecursion (IsVacant t.inodes)) free is.free)

pub many_spares : (seats : List Seat) → length (spares_of seats) ≡ length seats
many_spares seats = length-map seats (λ (seat : Seat). seat.spare)
