use Rattle.std.proofs.Common.{◌≡◌, drop, Err, [], ◌∷◌, ◌++◌, append-nil, refl, sym, ap, ◌∙◌, subst, rules}
use Rattle.toml.specs.View.{table_view}
use Rattle.ll_policy.specs.Calls.{IsNode, Joined}
use Rattle.ll_policy.specs.Faults.{node_faults}
use Rattle.ll_policy.specs.KeptCalls.{calls_of_node, opening_of}
use Rattle.ll_policy.proofs.Keys.{tables_in}
use Rattle.ll_policy.proofs.TablesRead.{next_table, next_other, fails_at, passes_at, passes_over, all_pass, no_tables}
use Rattle.ll_policy.proofs.TablesRead.{flat_map-push}
use Rattle.ll_policy.proofs.node.read_nodes.Goals as goal
use Rattle.ll_policy.proofs.node.read_nodes.Goals.{in-Some+in_ok-read+in_ok-push, in_default}

pub returns-in_err-read : goal.returns-in_err-read
returns-in_err-read c =
    let l = c.loop-value in
    let same : c.from_residual.result ≡ Err c.in_err-read.field-0.0 = search rules in
    let next = next_table c.args.values.now l.value-index c.value-item.result (table_view c.in-Some.table.now)
    c.loop-value-test.true c.value-item.is (sym c.in-Some.ensures) in
    rw same (fails_at node_faults (tables_in c.args.values.now) (tables_in (drop l.value-index c.args.values.now))
    l.invariant.faults (table_view c.in-Some.table.now) c.in_err-read.field-0.0 next c.in_err-read.ensures)

pub loop-value-preserved : goal.loop-value-preserved
loop-value-preserved c =
    let l = c.loop-value in
    let values = c.args.values.now in
    let i = l.value-index in
    let v = c.value-item.result in
    elim c.match-as_table.branch [
      | in-Some+in_ok-read+in_ok-push w ↦ (
          let t = table_view w.in-Some.table.now in
          let node = w.in_ok-read.field-0 in
          let next = next_table values i v t c.loop-value-test.true c.value-item.is (sym w.in-Some.ensures) in
          let nodes : c.match-as_table.nodes.items ≡ l.nodes.items ++ node ∷ [] =
          ap (λ vec. vec.items) w.nodes-is ∙ w.in_ok-push.ensures.items in record {
            faults = passes_at node_faults (tables_in values) (tables_in (drop i values)) l.invariant.faults t next
                w.in_ok-read.ensures.0;
            calls = λ rest joined.
                let here = subst (λ ts. Joined IsNode ts (calls_of_node node ++ rest)) (sym next)
                (calls_of_node node, rest, w.in_ok-read.ensures.1, joined, refl) in
                subst (Joined IsNode (tables_in values)) (flat_map-push calls_of_node l.nodes.items node rest
                ∙ ap (λ nodes. opening_of nodes ++ rest) (sym nodes))
                (l.invariant.calls (calls_of_node node ++ rest) here);
          })
      | in_default w ↦ (
          let next = next_other values i v c.loop-value-test.true c.value-item.is (sym w.in_default.ensures) in record {
            faults = passes_over node_faults (tables_in values) (tables_in (drop i values)) l.invariant.faults next;
            calls = λ rest joined. subst (λ vec. Joined IsNode (tables_in values) (opening_of vec.items ++ rest))
                (sym w.nodes-is) (l.invariant.calls rest (subst (λ ts. Joined IsNode ts rest) (sym next) joined));
          })
    ]

pub returns : goal.returns
returns c =
    let l = c.loop-value in
    let values = c.args.values.now in
    let none = no_tables values l.value-index c.loop-value-test.false in
    let joined = l.invariant.calls [] (subst (λ ts. Joined IsNode ts []) (sym none) refl) in (
      all_pass node_faults (tables_in values) (tables_in (drop l.value-index values)) l.invariant.faults none,
      subst (Joined IsNode (tables_in values)) (append-nil (opening_of l.nodes.items)) joined,
    )
