use Rattle.std.proofs.Common.{◌≡◌, ◌∷◌, ◌++◌, [], List, Err, inr, codes, rules, sym, ap, ◌∙◌, subst}
use Rattle.toml.specs.Data.{Members, get_member, as_str}
use Rattle.toml.specs.View.{table_view}
use Rattle.ll_policy.specs.declared.fault.PolicyFault.{PolicyFault}
use Rattle.ll_policy.specs.declared.fault.PolicyFault.TheVariants.{BadPath, BadKind, BadData}
use Rattle.ll_policy.specs.Calls.{node_calls}
use Rattle.ll_policy.specs.Faults.{required, optional, other_keys}
use Rattle.ll_policy.specs.Value.{is_path, is_kind, is_data}
use Rattle.ll_policy.specs.Table.{text_at}
use Rattle.ll_policy.proofs.Firsts.{Told, told_first, told_after, no_faults}
use Rattle.ll_policy.proofs.node.Node.read.Goals as goal

abbrev keys : Members → List PolicyFault
keys t = other_keys (codes "path" ∷ codes "kind" ∷ codes "data" ∷ []) t

abbrev path : Members → List PolicyFault
path t = required as_str is_path BadPath (get_member (codes "path") t)

abbrev kind : Members → List PolicyFault
kind t = required as_str is_kind BadKind (get_member (codes "kind") t)

abbrev bytes : Members → List PolicyFault
bytes t = optional as_str (is_data (text_at (codes "kind") t)) BadData (get_member (codes "data") t)

pub returns-in_err-only : goal.returns-in_err-only
returns-in_err-only c =
    let t = table_view c.args.table.now in
    let fault = c.in_err-only.field-0.0 in
    let same : c.from_residual.result ≡ Err fault = search rules in
    let told : Told (keys t) fault = inr c.in_err-only.ensures in
    rw same (told_first (keys t ++ path t ++ kind t) (bytes t) fault
    (told_first (keys t ++ path t) (kind t) fault (told_first (keys t) (path t) fault told)))

pub returns-in_err-path : goal.returns-in_err-path
returns-in_err-path c =
    let t = table_view c.args.table.now in
    let fault = c.in_err-path.field-0.0 in
    let same : c.from_residual-in_err-path.result ≡ Err fault = search rules in
    let told : Told (path t) fault = c.in_err-path.ensures in
    rw same (told_first (keys t ++ path t ++ kind t) (bytes t) fault
    (told_first (keys t ++ path t) (kind t) fault (told_after (keys t) (path t) fault c.in_ok-only.ensures.0 told)))

pub returns-in_err-kind : goal.returns-in_err-kind
returns-in_err-kind c =
    let t = table_view c.args.table.now in
    let fault = c.in_err-kind.field-0.0 in
    let same : c.from_residual-in_err-kind.result ≡ Err fault = search rules in
    let told : Told (kind t) fault = inr c.in_err-kind.ensures in
    rw same (told_first (keys t ++ path t ++ kind t) (bytes t) fault
    (told_after (keys t ++ path t) (kind t) fault
    (no_faults (keys t) (path t) c.in_ok-only.ensures.0 c.in_ok-path.ensures.0) told))

pub returns-in_err-bytes : goal.returns-in_err-bytes
returns-in_err-bytes c =
    let t = table_view c.args.table.now in
    let fault = c.in_err-bytes.field-0.0 in
    let same : c.from_residual-in_err-bytes.result ≡ Err fault = search rules in
    let told : Told (bytes t) fault =
    subst (λ text. Told (optional as_str (is_data text) BadData (get_member (codes "data") t)) fault)
    c.in_ok-kind.ensures.1 c.in_err-bytes.ensures in
    rw same (told_after (keys t ++ path t ++ kind t) (bytes t) fault
    (no_faults (keys t ++ path t) (kind t)
    (no_faults (keys t) (path t) c.in_ok-only.ensures.0 c.in_ok-path.ensures.0) c.in_ok-kind.ensures.0) told)

pub returns : goal.returns
returns c =
    let t = table_view c.args.table.now in (
      (no_faults (keys t ++ path t ++ kind t) (bytes t)
          (no_faults (keys t ++ path t) (kind t)
          (no_faults (keys t) (path t) c.in_ok-only.ensures.0 c.in_ok-path.ensures.0) c.in_ok-kind.ensures.0)
          (ap (λ text. optional as_str (is_data text) BadData (get_member (codes "data") t))
          (sym c.in_ok-kind.ensures.1)
          ∙ c.in_ok-bytes.ensures.0)),
      (
        c.in_ok-kind.kind,
        c.in_ok-kind.ensures.1,
        λ i. node_calls c.in_ok-kind.kind (c.in_ok-path.ensures.1 i) (c.in_ok-bytes.ensures.1 i),
      ),
    )
