use Rattle.std.proofs.Common.{◌≡◌, ◌∷◌, ◌++◌, [], List, Err, inr, codes, rules, ap}
use Rattle.toml.specs.Data.{Members, get_member, as_str}
use Rattle.toml.specs.View.{table_view}
use Rattle.ll_policy.specs.declared.fault.PolicyFault.{PolicyFault}
use Rattle.ll_policy.specs.declared.fault.PolicyFault.TheVariants.{BadPath, BadRights}
use Rattle.ll_seq.specs.declared.call.Call.TheVariants.{Allow}
use Rattle.ll_policy.specs.Calls.{path_to}
use Rattle.ll_policy.specs.Faults.{required, other_keys}
use Rattle.ll_policy.specs.Value.{is_path, is_rights}
use Rattle.ll_policy.proofs.Firsts.{Told, told_first, told_after, no_faults}
use Rattle.ll_policy.proofs.profile.Rule.read.Goals as goal

abbrev keys : Members → List PolicyFault
keys t = other_keys (codes "path" ∷ codes "rights" ∷ []) t

abbrev path : Members → List PolicyFault
path t = required as_str is_path BadPath (get_member (codes "path") t)

abbrev rights : Members → List PolicyFault
rights t = required as_str is_rights BadRights (get_member (codes "rights") t)

pub returns-in_err-only : goal.returns-in_err-only
returns-in_err-only c =
    let t = table_view c.args.table.now in
    let fault = c.in_err-only.field-0.0 in
    let same : c.from_residual.result ≡ Err fault = search rules in
    let told : Told (keys t) fault = inr c.in_err-only.ensures in
    rw same (told_first (keys t ++ path t) (rights t) fault (told_first (keys t) (path t) fault told))

pub returns-in_err-path : goal.returns-in_err-path
returns-in_err-path c =
    let t = table_view c.args.table.now in
    let fault = c.in_err-path.field-0.0 in
    let same : c.from_residual-in_err-path.result ≡ Err fault = search rules in
    let told : Told (path t) fault = c.in_err-path.ensures in
    rw same (told_first (keys t ++ path t) (rights t) fault
    (told_after (keys t) (path t) fault c.in_ok-only.ensures.0 told))

pub returns-in_err-rights : goal.returns-in_err-rights
returns-in_err-rights c =
    let t = table_view c.args.table.now in
    let fault = c.in_err-rights.field-0.0 in
    let same : c.from_residual-in_err-rights.result ≡ Err fault = search rules in
    let told : Told (rights t) fault = inr c.in_err-rights.ensures in
    rw same (told_after (keys t ++ path t) (rights t) fault
    (no_faults (keys t) (path t) c.in_ok-only.ensures.0 c.in_ok-path.ensures.0) told)

pub returns : goal.returns
returns c =
    let t = table_view c.args.table.now in (
      (no_faults (keys t ++ path t) (rights t)
          (no_faults (keys t) (path t) c.in_ok-only.ensures.0 c.in_ok-path.ensures.0) c.in_ok-rights.ensures.0),
      λ number. (
        c.in_ok-rights.rights,
        c.in_ok-rights.ensures.1,
        ap (λ text. Allow number (path_to text) c.in_ok-rights.rights ∷ []) c.in_ok-path.ensures.1,
      ),
    )
