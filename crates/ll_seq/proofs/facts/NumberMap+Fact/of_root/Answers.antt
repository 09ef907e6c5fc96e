use Rattle.std.proofs.Common.{ap, sym, subst, ◌∙◌}
use Rattle.std.specs.Ordering.{nat_cmp}
use Rattle.ll_rights.specs.declared.kind.Kind.TheVariants.{Dir}
use Rattle.ll_rights.specs.Map.{get, insert}
use Rattle.ll_rights.proofs.Maps.{get-empty}
use Rattle.ll_seq.specs.declared.facts.Fact.{Fact}
use Rattle.ll_seq.specs.State.{start}
use Rattle.ll_seq.specs.Facts.{AreKept}
use Rattle.ll_seq.proofs.FactsKept.{kept_start}
use Rattle.ll_seq.proofs.facts.NumberMap+Fact.of_root.Goals as goal

pub add-requires : goal.add-requires
add-requires c = ap (λ m. get m 1) c.new-facts.ensures ∙ get-empty Fact nat_cmp 1

pub returns : goal.returns
returns c rules room =
    subst (AreKept (start rules room))
    (ap (λ m. insert m 1 (record { kind = Dir; names = 0; links = 0; opens = 0 })) (sym c.new-facts.ensures)
    ∙ sym c.in_ok-add.ensures.ok) (kept_start rules room)
