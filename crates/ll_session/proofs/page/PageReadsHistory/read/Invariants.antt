use Rattle.std.proofs.Common.{◌≡◌, false}
use Rattle.ll_session.specs.KeptHistory.{Fills}
use Rattle.ll_session.proofs.page.PageReadsHistory.read.Given as goal

abbrev pub invariant-loop-index : goal.invariant-loop-index
invariant-loop-index l = record {
  fills : Fills l.fn.self l.entries l.self;
  next : l.self.next ≡ l.index;
  fine : l.self.is_starved ≡ false;
}
