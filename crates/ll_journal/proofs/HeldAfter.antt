-- What lies in the slot of an inode after each step of a walk, and after a call without one.
use Rattle.std.specs.Prelude.{◌≡◌, ℕ, refl}
use Rattle.std.proofs.Common.{ap}
use Rattle.ll_seq.specs.declared.call.Call.{Call}
use Rattle.ll_seq.specs.Step.{step}
use Rattle.ll_laws.specs.World.{World, shown, next_number, reply_to}
use Rattle.ll_journal.specs.Book.{mark_of, held_of}
use Rattle.ll_laws.specs.Sound.{IsSound}
use Rattle.ll_laws.proofs.Shapes.{with_entry}
use Rattle.ll_journal.proofs.Shown.{shown_reply}
use Rattle.ll_journal.proofs.MarkOf.{AreClients, are_clients, mark_same}
use Rattle.ll_node.proofs.SlotAccounts.{content_of}

known : (w : World) → IsSound w → AreClients w
known w sound = are_clients w sound

-- ---- a call without a walk

module _ (w : World) (number : ℕ) (call : Call) (sound : IsSound w)
    (later : IsSound (with_entry w number call (reply_to w number call))) where
  pub held_answered : (i : ℕ) → held_of (with_entry w number call (reply_to w number call)) i
      ≡ record {
        inode = i;
        node = record (content_of (step (shown w) number call (next_number w)).1 i)
            { mark = mark_of w i };
      }
  held_answered i =
      let content = ap (λ s. content_of s i) (shown_reply w number call) in
      let mark = mark_same w (with_entry w number call (reply_to w number call)) i (known w sound) (known _ later)
      (λ n. refl) in
      λ j. record { inode = i; node = record (content j) { mark = mark j } }
