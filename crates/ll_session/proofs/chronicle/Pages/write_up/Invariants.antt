use Rattle.std.proofs.Common.{◌≡◌, false}
use Rattle.ll_session.proofs.chronicle.Pages.write_up.Given as goal

abbrev pub invariant-loop : goal.invariant-loop
invariant-loop g l = record {
  whole : l.self.is_broken ≡ false;
  party : l.party ≡ l.fn.party;
}
