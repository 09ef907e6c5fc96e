use Rattle.std.proofs.Common.{◌≡◌, ◌∷◌, ◌++◌, [], List, Err, inr, codes, rules, sym, ap, ◌∙◌, subst, ℕ}
use Rattle.std.specs.Prelude.{flat_map, not}
use Rattle.std.specs.List.{enumerate_from}
use Rattle.toml.specs.Data.{Members, get_member, as_array}
use Rattle.toml.specs.View.{table_view}
use Rattle.ll_policy.specs.declared.fault.PolicyFault.{PolicyFault}
use Rattle.ll_policy.specs.declared.fault.PolicyFault.TheVariants.{BadName, WrongType}
use Rattle.ll_policy.specs.Calls.{IsLayer, Joined}
use Rattle.ll_policy.specs.Faults.{fault_if, optional, other_keys, layer_faults}
use Rattle.ll_policy.specs.KeptCalls.{calls_of_layers}
use Rattle.ll_policy.specs.Value.{is_name}
use Rattle.ll_policy.specs.Table.{are_tables, tables_at}
use Rattle.ll_policy.proofs.Firsts.{Told, told_first, told_after, no_faults, passed}
use Rattle.ll_policy.proofs.profile.Profile.read.Goals as goal

abbrev name : List ℕ × Members → List PolicyFault
name t = fault_if (not (is_name t.0)) BadName

abbrev keys : List ℕ × Members → List PolicyFault
keys t = other_keys (codes "layer" ∷ []) t.1

abbrev array : List ℕ × Members → List PolicyFault
array t = optional as_array are_tables WrongType (get_member (codes "layer") t.1)

abbrev layers_in : List ℕ × Members → List PolicyFault
layers_in t = flat_map layer_faults (tables_at (codes "layer") t.1)

pub returns-in_err-only : goal.returns-in_err-only
returns-in_err-only c =
    let t : List ℕ × Members = (c.args.name.now, table_view c.args.table.now) in
    let fault = c.in_err-only.field-0.0 in
    let same : c.from_residual.result ≡ Err fault = search rules in
    let told : Told (keys t) fault = inr c.in_err-only.ensures in
    rw same (told_first (name t ++ keys t ++ array t) (layers_in t) fault
    (told_first (name t ++ keys t) (array t) fault
    (told_after (name t) (keys t) fault (passed (is_name c.args.name.now) BadName (sym c.if-not-is_name.ensures))
    told)))

pub returns-in_err-tables : goal.returns-in_err-tables
returns-in_err-tables c =
    let t : List ℕ × Members = (c.args.name.now, table_view c.args.table.now) in
    let fault = c.in_err-tables.field-0.0 in
    let same : c.from_residual-in_err-tables.result ≡ Err fault = search rules in
    let told : Told (array t) fault = inr c.in_err-tables.ensures in
    rw same (told_first (name t ++ keys t ++ array t) (layers_in t) fault
    (told_after (name t ++ keys t) (array t) fault
    (no_faults (name t) (keys t) (passed (is_name c.args.name.now) BadName (sym c.if-not-is_name.ensures))
    c.in_ok-only.ensures.0) told))

pub returns-in_err-layers : goal.returns-in_err-layers
returns-in_err-layers c =
    let t : List ℕ × Members = (c.args.name.now, table_view c.args.table.now) in
    let fault = c.in_err-layers.field-0.0 in
    let same : c.from_residual-in_err-layers.result ≡ Err fault = search rules in
    let told : Told (layers_in t) fault =
    subst (λ ts. Told (flat_map layer_faults ts) fault) c.in_ok-tables.ensures.1 c.in_err-layers.ensures in
    rw same (told_after (name t ++ keys t ++ array t) (layers_in t) fault
    (no_faults (name t ++ keys t) (array t)
    (no_faults (name t) (keys t) (passed (is_name c.args.name.now) BadName (sym c.if-not-is_name.ensures))
    c.in_ok-only.ensures.0) c.in_ok-tables.ensures.0) told)

pub returns : goal.returns
returns c =
    let t : List ℕ × Members = (c.args.name.now, table_view c.args.table.now) in (
      (no_faults (name t ++ keys t ++ array t) (layers_in t)
          (no_faults (name t ++ keys t) (array t)
          (no_faults (name t) (keys t) (passed (is_name c.args.name.now) BadName (sym c.if-not-is_name.ensures))
          c.in_ok-only.ensures.0) c.in_ok-tables.ensures.0) (ap (flat_map layer_faults) (sym c.in_ok-tables.ensures.1)
          ∙ c.in_ok-layers.ensures.0)),
      record {
        name = c.in_ok-name.ensures.ok;
        calls = subst (λ ts. Joined IsLayer (enumerate_from 0 ts) (calls_of_layers 0 c.in_ok-layers.layers.items))
            c.in_ok-tables.ensures.1 c.in_ok-layers.ensures.1;
      },
    )
