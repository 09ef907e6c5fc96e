use Rattle.std.specs.Prelude.{ℕ, List, slice_index_or}
use Rattle.std.specs.List.{list_all}
use Rattle.std.proofs.Common.{ap, sym, ◌∙◌}
use Rattle.ll_seq.specs.Near.{nodes_of}
use Rattle.ll_seq.specs.declared.found.Spot.{Spot}
use Rattle.ll_journal.specs.Checks.{found_last}
use Rattle.ll_journal.proofs.LastNodes.{same_nodes}
use Rattle.ll_journal.proofs.check_commit.other_node.Goals as goal

pub returns-clause-first : goal.returns-clause-first
returns-clause-first c =
    c.node_at.ensures.first
    ∙ ap (λ (is : List ℕ). slice_index_or is 0 0)
    (ap (λ (last : Spot). nodes_of c.args.call.now (found_last last)) c.last_of.ensures
    ∙ same_nodes c.args.call.now c.args.found.now)

pub returns-clause-alone : goal.returns-clause-alone
returns-clause-alone c p zero =
    ap (λ (is : List ℕ). list_all p is)
    (sym (ap (λ (last : Spot). nodes_of c.args.call.now (found_last last)) c.last_of.ensures
    ∙ same_nodes c.args.call.now c.args.found.now))
    ∙ c.node_at.ensures.alone p zero
