use Rattle.std.proofs.Common.{◌≡◌, ◌∷◌, ◌++◌, [], List, Err, inr, codes, rules, sym, ap, ◌∙◌, subst, map, refl}
use Rattle.std.specs.Prelude.{flat_map}
use Rattle.toml.specs.Data.{Members, get_member, as_str, as_array}
use Rattle.toml.specs.View.{table_view}
use Rattle.ll_policy.specs.declared.fault.PolicyFault.{PolicyFault}
use Rattle.ll_policy.specs.declared.fault.PolicyFault.TheVariants.{BadRights, WrongType}
use Rattle.ll_policy.specs.Calls.{IsRule, Joined}
use Rattle.ll_policy.specs.Faults.{required, optional, other_keys, rule_faults}
use Rattle.ll_policy.specs.KeptCalls.{call_of_rule}
use Rattle.ll_policy.specs.Value.{is_rights}
use Rattle.ll_policy.specs.Table.{are_tables, tables_at}
use Rattle.ll_policy.proofs.Firsts.{Told, told_first, told_after, no_faults}
use Rattle.ll_policy.proofs.profile.Layer.read.Goals as goal

abbrev keys : Members → List PolicyFault
keys t = other_keys (codes "handled" ∷ codes "rule" ∷ []) t

abbrev handled : Members → List PolicyFault
handled t = required as_str is_rights BadRights (get_member (codes "handled") t)

abbrev array : Members → List PolicyFault
array t = optional as_array are_tables WrongType (get_member (codes "rule") t)

abbrev rules_in : Members → List PolicyFault
rules_in t = flat_map rule_faults (tables_at (codes "rule") t)

pub returns-in_err-only : goal.returns-in_err-only
returns-in_err-only c =
    let t = table_view c.args.table.now in
    let fault = c.in_err-only.field-0.0 in
    let same : c.from_residual.result ≡ Err fault = search rules in
    let told : Told (keys t) fault = inr c.in_err-only.ensures in
    rw same (told_first (keys t ++ handled t ++ array t) (rules_in t) fault
    (told_first (keys t ++ handled t) (array t) fault (told_first (keys t) (handled t) fault told)))

pub returns-in_err-handled : goal.returns-in_err-handled
returns-in_err-handled c =
    let t = table_view c.args.table.now in
    let fault = c.in_err-handled.field-0.0 in
    let same : c.from_residual-in_err-handled.result ≡ Err fault = search rules in
    let told : Told (handled t) fault = inr c.in_err-handled.ensures in
    rw same (told_first (keys t ++ handled t ++ array t) (rules_in t) fault
    (told_first (keys t ++ handled t) (array t) fault
    (told_after (keys t) (handled t) fault c.in_ok-only.ensures.0 told)))

pub returns-in_err-tables : goal.returns-in_err-tables
returns-in_err-tables c =
    let t = table_view c.args.table.now in
    let fault = c.in_err-tables.field-0.0 in
    let same : c.from_residual-in_err-tables.result ≡ Err fault = search rules in
    let told : Told (array t) fault = inr c.in_err-tables.ensures in
    rw same (told_first (keys t ++ handled t ++ array t) (rules_in t) fault
    (told_after (keys t ++ handled t) (array t) fault
    (no_faults (keys t) (handled t) c.in_ok-only.ensures.0 c.in_ok-handled.ensures.0) told))

pub returns-in_err-rules : goal.returns-in_err-rules
returns-in_err-rules c =
    let t = table_view c.args.table.now in
    let fault = c.in_err-rules.field-0.0 in
    let same : c.from_residual-in_err-rules.result ≡ Err fault = search rules in
    let told : Told (rules_in t) fault =
    subst (λ ts. Told (flat_map rule_faults ts) fault) c.in_ok-tables.ensures.1 c.in_err-rules.ensures in
    rw same (told_after (keys t ++ handled t ++ array t) (rules_in t) fault
    (no_faults (keys t ++ handled t) (array t)
    (no_faults (keys t) (handled t) c.in_ok-only.ensures.0 c.in_ok-handled.ensures.0) c.in_ok-tables.ensures.0)
    told)

pub returns : goal.returns
returns c =
    let t = table_view c.args.table.now in (
      (no_faults (keys t ++ handled t ++ array t) (rules_in t)
          (no_faults (keys t ++ handled t) (array t)
          (no_faults (keys t) (handled t) c.in_ok-only.ensures.0 c.in_ok-handled.ensures.0) c.in_ok-tables.ensures.0)
          (ap (flat_map rule_faults) (sym c.in_ok-tables.ensures.1) ∙ c.in_ok-rules.ensures.0)),
      λ number. (
        c.in_ok-handled.handled,
        c.in_ok-handled.ensures.1,
        map (call_of_rule number) c.in_ok-rules.rules.items,
        subst (λ ts. Joined (IsRule number) ts (map (call_of_rule number) c.in_ok-rules.rules.items))
            c.in_ok-tables.ensures.1 (c.in_ok-rules.ensures.1 number),
        refl,
      ),
    )
