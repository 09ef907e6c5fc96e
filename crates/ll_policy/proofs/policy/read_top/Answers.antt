use Rattle.std.proofs.Common.{◌≡◌, Bool, ◌++◌, List, Err, Some, slice_get, codes, subst, rules}
use Rattle.toml.specs.Data.{Members, get_member, as_integer, as_array, as_table}
use Rattle.toml.specs.View.{table_view}
use Rattle.ll_policy.specs.declared.fault.PolicyFault.{PolicyFault}
use Rattle.ll_policy.specs.declared.fault.PolicyFault.TheVariants.{WrongType, BadVersion}
use Rattle.ll_policy.specs.Faults.{required, optional, other_keys, top_keys, level_faults}
use Rattle.ll_policy.specs.Table.{are_tables, hold_tables}
use Rattle.ll_policy.specs.Value.{is_version}
use Rattle.ll_policy.proofs.Firsts.{first, first_after, no_faults}
use Rattle.ll_policy.proofs.policy.read_top.Goals as goal

abbrev keys : Bool → Members → List PolicyFault
keys two t = other_keys (top_keys two) t

abbrev version : Members → List PolicyFault
version t = required as_integer is_version BadVersion (get_member (codes "version") t)

abbrev nodes : Members → List PolicyFault
nodes t = optional as_array are_tables WrongType (get_member (codes "node") t)

abbrev profiles : Members → List PolicyFault
profiles t = optional as_table hold_tables WrongType (get_member (codes "profile") t)

-- the first fault of a document that is of the second version, or isn't
abbrev Tells : Members → PolicyFault → Bool → Type 0
Tells t fault two = slice_get (keys two t ++ version t ++ level_faults two t ++ nodes t ++ profiles t) 0 ≡ Some fault

pub returns-in_err-only_top : goal.returns-in_err-only_top
returns-in_err-only_top c =
    let t = table_view c.args.table.now in
    let two = c.is_two-two.result in
    let fault = c.in_err-only_top.field-0.0 in
    let same : c.from_residual.result ≡ Err fault = search rules in
    rw same (subst (Tells t fault) c.is_two-two.ensures
    (first (keys two t ++ version t ++ level_faults two t ++ nodes t) (profiles t) fault
    (first (keys two t ++ version t ++ level_faults two t) (nodes t) fault
    (first (keys two t ++ version t) (level_faults two t) fault
    (first (keys two t) (version t) fault c.in_err-only_top.ensures)))))

pub returns-in_err-version : goal.returns-in_err-version
returns-in_err-version c =
    let t = table_view c.args.table.now in
    let two = c.is_two-two.result in
    let fault = c.in_err-version.field-0.0 in
    let same : c.from_residual-in_err-version.result ≡ Err fault = search rules in
    rw same (subst (Tells t fault) c.is_two-two.ensures
    (first (keys two t ++ version t ++ level_faults two t ++ nodes t) (profiles t) fault
    (first (keys two t ++ version t ++ level_faults two t) (nodes t) fault
    (first (keys two t ++ version t) (level_faults two t) fault
    (first_after (keys two t) (version t) fault c.in_ok-only_top.ensures.0 c.in_err-version.ensures)))))

pub returns-in_err-abi : goal.returns-in_err-abi
returns-in_err-abi c =
    let t = table_view c.args.table.now in
    let two = c.is_two-two.result in
    let fault = c.in_err-abi.field-0.0 in
    let same : c.from_residual-in_err-abi.result ≡ Err fault = search rules in
    rw same (subst (Tells t fault) c.is_two-two.ensures
    (first (keys two t ++ version t ++ level_faults two t ++ nodes t) (profiles t) fault
    (first (keys two t ++ version t ++ level_faults two t) (nodes t) fault
    (first_after (keys two t ++ version t) (level_faults two t) fault
    (no_faults (keys two t) (version t) c.in_ok-only_top.ensures.0 c.in_ok-version.ensures.0)
    c.in_err-abi.ensures))))

pub returns-in_err-nodes : goal.returns-in_err-nodes
returns-in_err-nodes c =
    let t = table_view c.args.table.now in
    let two = c.is_two-two.result in
    let fault = c.in_err-nodes.field-0.0 in
    let same : c.from_residual-in_err-nodes.result ≡ Err fault = search rules in
    rw same (subst (Tells t fault) c.is_two-two.ensures
    (first (keys two t ++ version t ++ level_faults two t ++ nodes t) (profiles t) fault
    (first_after (keys two t ++ version t ++ level_faults two t) (nodes t) fault
    (no_faults (keys two t ++ version t) (level_faults two t)
    (no_faults (keys two t) (version t) c.in_ok-only_top.ensures.0 c.in_ok-version.ensures.0) c.in_ok-abi.ensures.0)
    c.in_err-nodes.ensures)))

pub returns-in_err-profiles : goal.returns-in_err-profiles
returns-in_err-profiles c =
    let t = table_view c.args.table.now in
    let two = c.is_two-two.result in
    let fault = c.in_err-profiles.field-0.0 in
    let same : c.from_residual-in_err-profiles.result ≡ Err fault = search rules in
    rw same (subst (Tells t fault) c.is_two-two.ensures
    (first_after (keys two t ++ version t ++ level_faults two t ++ nodes t) (profiles t) fault
    (no_faults (keys two t ++ version t ++ level_faults two t) (nodes t)
    (no_faults (keys two t ++ version t) (level_faults two t)
    (no_faults (keys two t) (version t) c.in_ok-only_top.ensures.0 c.in_ok-version.ensures.0) c.in_ok-abi.ensures.0)
    c.in_ok-nodes.ensures.0) c.in_err-profiles.ensures))
