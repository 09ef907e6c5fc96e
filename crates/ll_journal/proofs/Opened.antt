-- A journal that was just opened keeps what it has to.
use Rattle.std.specs.Prelude.{◌≡◌, ℕ, zero, suc, ◌≤◌, List, [], length, None, option_map, refl}
use Rattle.std.specs.Ordering.{nat_cmp}
use Rattle.std.proofs.Common.{sym, subst, ap, ◌∙◌, arith}
use Rattle.ll_rights.specs.declared.limits.TheConstants.{HISTORY_ENTRIES, TREE_CLIENTS}
use Rattle.ll_rights.proofs.Maps.{get-empty}
use Rattle.ll_seq.specs.declared.client.ClientRecord.{ClientRecord}
use Rattle.ll_seq.specs.declared.reply.Entry.{Entry}
use Rattle.ll_seq.specs.declared.rules.Rules.{Rules}
use Rattle.ll_seq.specs.State.{start}
use Rattle.ll_seq.specs.History.{state_after}
use Rattle.ll_journal.specs.declared.journal.Journal.TheInside.{Inside}
use Rattle.ll_laws.specs.World.{new_world, shown}
use Rattle.ll_laws.specs.Sound.{IsSound}
use Rattle.ll_laws.proofs.SoundSteps.{sound_start}
use Rattle.ll_journal.specs.Book.{Seat}
use Rattle.ll_journal.specs.Kept.{seat_at, AreSeated, IsKept, walks_from, world_of, spares_of}
use Rattle.ll_node.specs.InodeTable.{IsTable}

nobody_there : (number : ℕ) → option_map (λ (seat : Seat). seat.client) (seat_at [] number) ≡ None
nobody_there zero = refl
nobody_there (suc place) = refl

seated : (rules : Rules) (room : ℕ) → AreSeated (start rules room) []
seated rules room number = get-empty ClientRecord nat_cmp number ∙ sym (nobody_there number)

-- in a tree of the root alone
module _ (j : Inside) (none : j.history.entries ≡ []) (nobody : j.seats.items ≡ []) (gate : j.gate ≡ None)
    (small : j.history.limit ≤ HISTORY_ENTRIES) where
  sound : IsSound (world_of j)
  sound = subst IsSound (sym opened_world) (sound_start j.rules j.room j.history.limit)
    where
      opened_world : world_of j ≡ new_world j.rules j.room j.history.limit
      opened_world = λ i. record {
        rules = j.rules;
        room = j.room;
        limit = j.history.limit;
        history = none i;
        walks = walks_from 1 (nobody i);
        gate = gate i;
      }

  kept_by : ((rules : Rules) → IsTable (start rules j.room) [] j.table) → IsKept j
  kept_by table = record {
    sound = sound;
    seated =
        subst (AreSeated (state_after (start j.rules j.room) j.history.entries)) (sym nobody)
        (subst (λ (es : List Entry). AreSeated (state_after (start j.rules j.room) es) []) (sym none)
        (seated j.rules j.room));
    table = is_table;
    crowd = subst (λ (xs : List Seat). length xs ≤ TREE_CLIENTS) (sym nobody) (omega arith);
    numbers = let first = is_table.next ∙ ap (λ (es : List Entry). (state_after (start j.rules j.room) es).next) none in
        omega (arith, first);
    small = small;
  }
    where
      is_table : IsTable (shown (world_of j)) (spares_of j.seats.items) j.table
      is_table = subst (λ (p : List Entry × List Seat). IsTable (state_after (start j.rules j.room) p.0) (spares_of p.1)
          j.table) (λ i. (sym none i, sym nobody i)) (table j.rules)

pub kept : (j : Inside) → j.history.entries ≡ [] → j.seats.items ≡ [] → j.gate ≡ None
    → j.history.limit ≤ HISTORY_ENTRIES → ((rules : Rules) → IsTable (start rules j.room) [] j.table) → IsKept j
kept j none nobody gate small table = kept_by j none nobody gate small table
