use Rattle.std.proofs.Common.{List, ℕ, ap, ◌∙◌}
use Rattle.std.specs.Borrow.{Bor}
use Rattle.std.specs.List.{flat_map}
use Rattle.std.proofs.lemmas.List.{take_all}
use Rattle.ll_why.proofs.TextGrowth.{all_parts}
use Rattle.ll_why.proofs.text.concat.Goals as goal

pub returns : goal.returns
returns c =
    let parts = c.args.parts.now in
    c.loop-part.invariant
    ∙ ap (flat_map (λ (p : Bor (List ℕ)). p.now)) (take_all c.loop-part.part-index parts c.loop-part-test.false)
    ∙ all_parts (λ (p : Bor (List ℕ)). p.now) parts
