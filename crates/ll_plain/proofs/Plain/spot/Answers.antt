use Rattle.std.proofs.Common.{sym, subst}
use Rattle.ll_seq.specs.State.{State}
use Rattle.ll_seq.proofs.Counted.{spot_counted}
use Rattle.ll_seq.specs.Found.{IsSpot}
use Rattle.ll_plain.specs.Tables.{IsTied}
use Rattle.ll_plain.proofs.Tied.{named_kind}
use Rattle.ll_plain.proofs.Plain.spot.Goals as goal

pub returns : goal.returns
returns c path blocked stands names =
    let s = c.args.self.now in
    let facts = c.self.inside.facts in
    let tied = subst (λ (z : State). IsTied z facts) c.self.view_is c.self.invariant in
    subst (IsSpot s path) (sym c.of.ensures)
    (spot_counted s facts tied.kept tied.nodes.root path c.args.way c.args.directory c.args.node blocked stands names
    (named_kind s tied.nodes path))
