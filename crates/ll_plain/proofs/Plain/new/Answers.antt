use Rattle.std.proofs.Common.{ap, sym, subst, ◌∙◌}
use Rattle.std.specs.Ordering.{nat_cmp}
use Rattle.ll_rights.specs.declared.kind.Kind.TheVariants.{Dir}
use Rattle.ll_rights.specs.Map.{get, insert}
use Rattle.ll_rights.proofs.Maps.{get-empty}
use Rattle.ll_seq.specs.declared.node.Node.{Node}
use Rattle.ll_plain.specs.Tables.{IsTied}
use Rattle.ll_plain.proofs.Tied.{nodes_start}
use Rattle.ll_plain.proofs.Plain.new.Goals as goal

pub insert-requires : goal.insert-requires
insert-requires c = ap (λ m. get m 1) c.new-table.ensures ∙ get-empty Node nat_cmp 1

pub invariant_of-result-2 : goal.invariant_of-result-2
invariant_of-result-2 c =
    let nodes = c.table.view_is ∙ c.in_ok-insert.ensures.ok
    ∙ (λ i. insert (c.new-table.ensures i) 1 (record { kind = Dir; bytes = c.empty.ensures i })) in
    subst (λ z. IsTied z c.in_ok-of_root.field-0)
    (λ i. record {
      entries = sym c.new.ensures i;
      nodes = sym nodes i;
      next = 2;
      room = c.args.nodes;
      rules = c.args.rules;
      clients = sym c.new-2.ensures i;
    })
    (record { kept = c.in_ok-of_root.ensures c.args.rules c.args.nodes; nodes = nodes_start c.args.rules c.args.nodes })
