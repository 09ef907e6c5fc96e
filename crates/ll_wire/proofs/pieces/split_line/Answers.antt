use Rattle.std.proofs.Common.{◌≡◌, ◌∷◌, ℕ, ◌+◌, suc, List, slice_index, take, drop, sym, ap, ◌∙◌, arith}
use Rattle.std.proofs.lemmas.Bool.{eqb-true, eq-eqb}
use Rattle.ll_wire.specs.Pieces.{pieces}
use Rattle.ll_wire.proofs.FirstLine.{Before, no_feed, first_feed}
use Rattle.ll_wire.proofs.pieces.split_line.Goals as goal

pub returns-in-Some-clause-first : goal.returns-in-Some-clause-first
returns-in-Some-clause-first c =
    let bytes = c.args.bytes.now in
    let end = c.in-Some.end in
    let found = c.in-Some.ensures in
    let before : Before bytes end =
    λ k below is. found.0.before k (omega arith) below (eq-eqb (slice_index bytes k) 10 is) in
    let next : suc end ≡ end + 1 = omega arith in
    first_feed bytes end before found.0.high (eqb-true (slice_index bytes end) 10 found.1)
    ∙ ap (λ (n : ℕ). take n bytes ∷ pieces (drop n bytes)) next
    ∙ sym (ap (λ (x : List ℕ). x ∷ pieces c.split_at.result.1.now) c.split_at.ensures.front
    ∙ ap (λ (x : List ℕ). take (end + 1) bytes ∷ pieces x) c.split_at.ensures.back)

pub returns-in-None-clause-first : goal.returns-in-None-clause-first
returns-in-None-clause-first c =
    let bytes = c.args.bytes.now in
    no_feed bytes c.requires (λ k below is. c.in-None.ensures k (omega arith) below
    (eq-eqb (slice_index bytes k) 10 is))
