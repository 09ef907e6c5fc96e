use Rattle.std.proofs.Common.{◌≡◌, ◌+◌, length, drop, Err, [], ◌∷◌, ◌++◌, append-nil, refl, sym, ap, ◌∙◌, subst, rules}
use Rattle.std.specs.List.{enumerate_from}
use Rattle.std.proofs.lemmas.List.{length_push}
use Rattle.toml.specs.View.{table_view}
use Rattle.ll_policy.specs.Calls.{IsLayer, Joined}
use Rattle.ll_policy.specs.Faults.{layer_faults}
use Rattle.ll_policy.specs.KeptCalls.{calls_of_layer, calls_of_layers}
use Rattle.ll_policy.proofs.Keys.{tables_in}
use Rattle.ll_policy.proofs.TablesRead.{next_table, next_other, fails_at, passes_at, passes_over, all_pass, no_tables}
use Rattle.ll_policy.proofs.TablesRead.{layers-push}
use Rattle.ll_policy.proofs.profile.read_layers.Goals as goal
use Rattle.ll_policy.proofs.profile.read_layers.Goals.{in-Some+in_ok-read+in_ok-push, in_default}

pub returns-in_err-read : goal.returns-in_err-read
returns-in_err-read c =
    let l = c.loop-value in
    let same : c.from_residual.result ≡ Err c.in_err-read.field-0.0 = search rules in
    let next = next_table c.args.values.now l.value-index c.value-item.result (table_view c.in-Some.table.now)
    c.loop-value-test.true c.value-item.is (sym c.in-Some.ensures) in
    rw same (fails_at layer_faults (tables_in c.args.values.now) (tables_in (drop l.value-index c.args.values.now))
    l.invariant.faults (table_view c.in-Some.table.now) c.in_err-read.field-0.0 next c.in_err-read.ensures)

pub loop-value-preserved : goal.loop-value-preserved
loop-value-preserved c =
    let l = c.loop-value in
    let values = c.args.values.now in
    let i = l.value-index in
    let v = c.value-item.result in
    elim c.match-as_table.branch [
      | in-Some+in_ok-read+in_ok-push w ↦ (
          let t = table_view w.in-Some.table.now in
          let layer = w.in_ok-read.field-0 in
          let number = length l.layers.items in
          let next = next_table values i v t c.loop-value-test.true c.value-item.is (sym w.in-Some.ensures) in
          let more : c.match-as_table.layers.items ≡ l.layers.items ++ layer ∷ [] =
          ap (λ vec. vec.items) w.layers-is ∙ w.in_ok-push.ensures.items in
          let longer : length c.match-as_table.layers.items ≡ number + 1 =
          ap length more ∙ length_push l.layers.items layer in record {
            faults = passes_at layer_faults (tables_in values) (tables_in (drop i values)) l.invariant.faults t next
                w.in_ok-read.ensures.0;
            calls = λ rest joined.
                let others = subst (λ n. Joined IsLayer (enumerate_from n (tables_in (drop (i + 1) values))) rest)
                longer joined in
                let here = subst (λ ts. Joined IsLayer (enumerate_from number ts) (calls_of_layer number layer ++ rest))
                (sym next) (calls_of_layer number layer, rest, w.in_ok-read.ensures.1 number, others, refl) in
                subst (Joined IsLayer (enumerate_from 0 (tables_in values))) (layers-push l.layers.items layer rest
                ∙ ap (λ layers. calls_of_layers 0 layers ++ rest) (sym more))
                (l.invariant.calls (calls_of_layer number layer ++ rest) here);
          })
      | in_default w ↦ (
          let next = next_other values i v c.loop-value-test.true c.value-item.is (sym w.in_default.ensures) in record {
            faults = passes_over layer_faults (tables_in values) (tables_in (drop i values)) l.invariant.faults next;
            calls = λ rest joined.
                let others = subst (λ vec. Joined IsLayer
                (enumerate_from (length vec.items) (tables_in (drop (i + 1) values))) rest) w.layers-is joined in
                let here = subst (λ ts. Joined IsLayer (enumerate_from (length l.layers.items) ts) rest) (sym next)
                others in
                subst (λ vec. Joined IsLayer (enumerate_from 0 (tables_in values))
                (calls_of_layers 0 vec.items ++ rest)) (sym w.layers-is) (l.invariant.calls rest here);
          })
    ]

pub returns : goal.returns
returns c =
    let l = c.loop-value in
    let values = c.args.values.now in
    let none = no_tables values l.value-index c.loop-value-test.false in
    let joined = l.invariant.calls []
    (subst (λ ts. Joined IsLayer (enumerate_from (length l.layers.items) ts) []) (sym none) refl) in (
      all_pass layer_faults (tables_in values) (tables_in (drop l.value-index values)) l.invariant.faults none,
      subst (Joined IsLayer (enumerate_from 0 (tables_in values))) (append-nil (calls_of_layers 0 l.layers.items))
          joined,
    )
