use Rattle.std.proofs.Common.{◌≡◌, drop, map, Err, [], ◌∷◌, ◌++◌, append-nil, refl, sym, ap, ◌∙◌, subst, rules}
use Rattle.toml.specs.View.{table_view}
use Rattle.ll_policy.specs.Calls.{IsRule, Joined}
use Rattle.ll_policy.specs.Faults.{rule_faults}
use Rattle.ll_policy.specs.KeptCalls.{call_of_rule}
use Rattle.ll_policy.proofs.Keys.{tables_in}
use Rattle.ll_policy.proofs.TablesRead.{next_table, next_other, fails_at, passes_at, passes_over, all_pass, no_tables}
use Rattle.ll_policy.proofs.TablesRead.{map-push}
use Rattle.ll_policy.proofs.profile.read_rules.Goals as goal
use Rattle.ll_policy.proofs.profile.read_rules.Goals.{in-Some+in_ok-read+in_ok-push, in_default}

pub returns-in_err-read : goal.returns-in_err-read
returns-in_err-read c =
    let l = c.loop-value in
    let same : c.from_residual.result ≡ Err c.in_err-read.field-0.0 = search rules in
    let next = next_table c.args.values.now l.value-index c.value-item.result (table_view c.in-Some.table.now)
    c.loop-value-test.true c.value-item.is (sym c.in-Some.ensures) in
    rw same (fails_at rule_faults (tables_in c.args.values.now) (tables_in (drop l.value-index c.args.values.now))
    l.invariant.faults (table_view c.in-Some.table.now) c.in_err-read.field-0.0 next c.in_err-read.ensures)

pub loop-value-preserved : goal.loop-value-preserved
loop-value-preserved c =
    let l = c.loop-value in
    let values = c.args.values.now in
    let i = l.value-index in
    let v = c.value-item.result in
    elim c.match-as_table.branch [
      | in-Some+in_ok-read+in_ok-push w ↦ (
          let t = table_view w.in-Some.table.now in
          let rule = w.in_ok-read.field-0 in
          let next = next_table values i v t c.loop-value-test.true c.value-item.is (sym w.in-Some.ensures) in
          let more : c.match-as_table.rules.items ≡ l.rules.items ++ rule ∷ [] =
          ap (λ vec. vec.items) w.rules-is ∙ w.in_ok-push.ensures.items in record {
            faults = passes_at rule_faults (tables_in values) (tables_in (drop i values)) l.invariant.faults t next
                w.in_ok-read.ensures.0;
            calls = λ number rest joined.
                let call = call_of_rule number rule in
                let here = subst (λ ts. Joined (IsRule number) ts (call ∷ rest)) (sym next)
                (call ∷ [], rest, w.in_ok-read.ensures.1 number, joined, refl) in
                subst (Joined (IsRule number) (tables_in values))
                (map-push (call_of_rule number) l.rules.items rule rest
                ∙ ap (λ rs. map (call_of_rule number) rs ++ rest) (sym more))
                (l.invariant.calls number (call ∷ rest) here);
          })
      | in_default w ↦ (
          let next = next_other values i v c.loop-value-test.true c.value-item.is (sym w.in_default.ensures) in record {
            faults = passes_over rule_faults (tables_in values) (tables_in (drop i values)) l.invariant.faults next;
            calls = λ number rest joined. subst
                (λ vec. Joined (IsRule number) (tables_in values) (map (call_of_rule number) vec.items ++ rest))
                (sym w.rules-is) (l.invariant.calls number rest
                (subst (λ ts. Joined (IsRule number) ts rest) (sym next) joined));
          })
    ]

pub returns : goal.returns
returns c =
    let l = c.loop-value in
    let values = c.args.values.now in
    let none = no_tables values l.value-index c.loop-value-test.false in (
      all_pass rule_faults (tables_in values) (tables_in (drop l.value-index values)) l.invariant.faults none,
      λ number. subst (Joined (IsRule number) (tables_in values)) (append-nil (map (call_of_rule number) l.rules.items))
          (l.invariant.calls number [] (subst (λ ts. Joined (IsRule number) ts []) (sym none) refl)),
    )
