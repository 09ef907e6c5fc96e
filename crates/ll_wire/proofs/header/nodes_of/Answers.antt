use Rattle.std.proofs.Common.{◌∙◌, sym, arith, inl, inr}
use Rattle.std.proofs.lemmas.Fmt.{decimal_injective}
use Rattle.ll_wire.proofs.header.nodes_of.Goals as goal

pub returns-then-nodes-lt1 : goal.returns-then-nodes-lt1
returns-then-nodes-lt1 c v is =
    let n = c.in_ok-nodes.ensures in
    let same = decimal_injective c.in_ok-nodes.nodes v n.0 (omega (arith, is.1)) (sym n.1 ∙ is.2) in
    elim c.then-nodes-lt1.either [ inl low ↦ omega (arith, is.0) | inr high ↦ omega (arith, is.1) ]
