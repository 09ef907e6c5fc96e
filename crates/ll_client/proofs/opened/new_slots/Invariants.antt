use Rattle.std.proofs.Common.{◌≡◌, ◌≤◌, ℕ, ◌*◌, None, map}
use Rattle.std.specs.List.{range_with_len}
use Rattle.ll_rights.specs.Map.{get}
use Rattle.ll_client.specs.CallStart.{kept_at}
use Rattle.ll_client.specs.Entries.{AreAccounts}
use Rattle.ll_client.proofs.opened.new_slots.Given as goal

abbrev pub invariant-loop-place : goal.invariant-loop-place
invariant-loop-place g l = record {
  slots : l.slots.items ≡ map (kept_at l.journal) (range_with_len 0 l.place);
  all : AreAccounts l.journal l.keeper;
  free : (k : ℕ) → l.place ≤ k → get l.keeper (3 * k) ≡ None;
}
