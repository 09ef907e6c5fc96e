use Rattle.std.proofs.Common.{◌≡◌, ◌++◌, [], List, Some, None, Err, inr, map, codes, rules, sym, ap, ◌∙◌, subst}
use Rattle.std.specs.Prelude.{flat_map}
use Rattle.toml.specs.Data.{Members}
use Rattle.toml.specs.View.{table_view}
use Rattle.ll_policy.specs.declared.fault.PolicyFault.{PolicyFault}
use Rattle.ll_policy.specs.Faults.{top_faults, node_faults, profile_faults}
use Rattle.ll_policy.specs.Calls.{IsNode, IsProfile, Joined}
use Rattle.ll_policy.specs.KeptCalls.{named_in, named_calls, opening_of}
use Rattle.ll_policy.specs.Plan.{Each}
use Rattle.ll_policy.specs.Table.{tables_at, named_tables_at}
use Rattle.ll_policy.proofs.Firsts.{Told, told_first, told_after, no_faults}
use Rattle.ll_policy.proofs.policy.Policy.read.Goals as goal
use Rattle.ll_policy.proofs.policy.Policy.read.Goals.{in-Some-profiles+in_ok-profiles-in-Some-profiles, in-None}

abbrev nodes_in : Members → List PolicyFault
nodes_in t = flat_map node_faults (tables_at (codes "node") t)

abbrev profiles_in : Members → List PolicyFault
profiles_in t = flat_map profile_faults (named_tables_at (codes "profile") t)

pub returns-in_err-top : goal.returns-in_err-top
returns-in_err-top c =
    let t = table_view c.args.table.now in
    let fault = c.in_err-top.field-0.0 in
    let same : c.from_residual.result ≡ Err fault = search rules in
    let told : Told (top_faults t) fault = inr c.in_err-top.ensures in
    rw same (told_first (top_faults t ++ nodes_in t) (profiles_in t) fault
    (told_first (top_faults t) (nodes_in t) fault told))

pub returns-in_err-nodes : goal.returns-in_err-nodes
returns-in_err-nodes c =
    let t = table_view c.args.table.now in
    let fault = c.in_err-nodes.field-0.0 in
    let same : c.from_residual-in_err-nodes.result ≡ Err fault = search rules in
    let told : Told (nodes_in t) fault =
    subst (λ ts. Told (flat_map node_faults ts) fault) c.in_ok-top.ensures.1.nodes c.in_err-nodes.ensures in
    rw same (told_first (top_faults t ++ nodes_in t) (profiles_in t) fault
    (told_after (top_faults t) (nodes_in t) fault c.in_ok-top.ensures.0 told))

pub returns-in_err-profiles-in-Some-profiles : goal.returns-in_err-profiles-in-Some-profiles
returns-in_err-profiles-in-Some-profiles c =
    let t = table_view c.args.table.now in
    let fault = (c.in_err-profiles-in-Some-profiles).field-0.0 in
    let same : (c.from_residual-in_err-profiles-in-Some-profiles).result ≡ Err fault = search rules in
    let found : c.in_ok-top.top.profiles ≡ Some c.in-Some-profiles.profiles = search rules in
    let names : named_in (Some c.in-Some-profiles.profiles) ≡ named_tables_at (codes "profile") t =
    ap named_in (sym found) ∙ c.in_ok-top.ensures.1.profiles in
    let told : Told (profiles_in t) fault =
    subst (λ ns. Told (flat_map profile_faults ns) fault) names (c.in_err-profiles-in-Some-profiles).ensures in
    let nodes : nodes_in t ≡ [] =
    ap (flat_map node_faults) (sym c.in_ok-top.ensures.1.nodes) ∙ c.in_ok-nodes.ensures.0 in
    rw same (told_after (top_faults t ++ nodes_in t) (profiles_in t) fault
    (no_faults (top_faults t) (nodes_in t) c.in_ok-top.ensures.0 nodes) told)

pub returns : goal.returns
returns c =
    let t = table_view c.args.table.now in
    let top = c.in_ok-top.ensures in
    let nodes : nodes_in t ≡ [] = ap (flat_map node_faults) (sym top.1.nodes) ∙ c.in_ok-nodes.ensures.0 in
    let read : (profiles_in t ≡ [])
    × Each IsProfile (named_tables_at (codes "profile") t) (map named_calls c.match-top.profiles.items) =
    elim c.match-top.branch [
      | in-Some-profiles+in_ok-profiles-in-Some-profiles w ↦ (
          let found : c.in_ok-top.top.profiles ≡ Some w.in-Some-profiles.profiles = search rules in
          let names : named_in (Some w.in-Some-profiles.profiles) ≡ named_tables_at (codes "profile") t =
          ap named_in (sym found) ∙ top.1.profiles in (
            ap (flat_map profile_faults) (sym names)
                ∙ (w.in_ok-profiles-in-Some-profiles).ensures.0,
            rw (w.profiles-is, ← names) (w.in_ok-profiles-in-Some-profiles).ensures.1,
          ))
      | in-None w ↦ (
          let found : c.in_ok-top.top.profiles ≡ None = search rules in
          let names : named_in None ≡ named_tables_at (codes "profile") t = ap named_in (sym found) ∙ top.1.profiles in
          (ap (flat_map profile_faults) (sym names), rw (w.profiles-is, w.new-profiles.ensures.items, ← names) tt))
    ] in (
      no_faults (top_faults t ++ nodes_in t) (profiles_in t) (no_faults (top_faults t) (nodes_in t) top.0 nodes) read.0,
      record {
        abi = search rules;
        opening = subst (λ ts. Joined IsNode ts (opening_of c.in_ok-nodes.nodes.items)) top.1.nodes
            c.in_ok-nodes.ensures.1;
        profiles = read.1;
      },
    )
