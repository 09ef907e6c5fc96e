-- What may be wrong with each key of a policy's tables.
use Rattle.std.proofs.Common.{◌≤◌, length}
use Rattle.std.specs.Prelude.{ℕ, List, [], ◌∷◌, Bool, codes, not}
use Rattle.toml.specs.Data.{Members, get_member, as_str, as_integer, as_array, as_table}
use Rattle.ll_policy.specs.declared.fault.PolicyFault.{PolicyFault}
use Rattle.ll_policy.specs.declared.fault.PolicyFault.TheVariants.{BadName, BadPath, BadKind, BadRights, BadData}
use Rattle.ll_policy.specs.declared.fault.PolicyFault.TheVariants.{BadVersion, WrongType}
use Rattle.ll_policy.specs.Faults.{fault_if, optional, other_keys, required, top_keys}
use Rattle.ll_policy.specs.Table.{are_tables, hold_tables, text_at}
use Rattle.ll_policy.specs.Value.{is_data, is_kind, is_name, is_path, is_rights, is_version}
use Rattle.ll_policy.proofs.Noted.{few_optional, few_required}

abbrev pub node_keys : Members → List PolicyFault
node_keys t = other_keys (codes "path" ∷ codes "kind" ∷ codes "data" ∷ []) t

abbrev pub rule_keys : Members → List PolicyFault
rule_keys t = other_keys (codes "path" ∷ codes "rights" ∷ []) t

abbrev pub layer_keys : Members → List PolicyFault
layer_keys t = other_keys (codes "handled" ∷ codes "rule" ∷ []) t

abbrev pub profile_keys : Members → List PolicyFault
profile_keys t = other_keys (codes "layer" ∷ []) t

abbrev pub path : Members → List PolicyFault
path t = required as_str is_path BadPath (get_member (codes "path") t)

abbrev pub kind : Members → List PolicyFault
kind t = required as_str is_kind BadKind (get_member (codes "kind") t)

abbrev pub bytes : Members → List PolicyFault
bytes t = optional as_str (is_data (text_at (codes "kind") t)) BadData (get_member (codes "data") t)

abbrev pub rights : List ℕ → Members → List PolicyFault
rights key t = required as_str is_rights BadRights (get_member key t)

abbrev pub tables : List ℕ → Members → List PolicyFault
tables key t = optional as_array are_tables WrongType (get_member key t)

abbrev pub name : List ℕ → List PolicyFault
name it = fault_if (not (is_name it)) BadName

abbrev pub top : Bool → Members → List PolicyFault
top two t = other_keys (top_keys two) t

abbrev pub version : Members → List PolicyFault
version t = required as_integer is_version BadVersion (get_member (codes "version") t)

abbrev pub profiles : Members → List PolicyFault
profiles t = optional as_table hold_tables WrongType (get_member (codes "profile") t)

-- ---- one fault at most each

pub path_few : (t : Members) → length (path t) ≤ 1
path_few t = few_required as_str is_path BadPath (get_member (codes "path") t)

pub kind_few : (t : Members) → length (kind t) ≤ 1
kind_few t = few_required as_str is_kind BadKind (get_member (codes "kind") t)

pub bytes_few : (t : Members) → length (bytes t) ≤ 1
bytes_few t = few_optional as_str (is_data (text_at (codes "kind") t)) BadData (get_member (codes "data") t)

pub rights_few : (key : List ℕ) (t : Members) → length (rights key t) ≤ 1
rights_few key t = few_required as_str is_rights BadRights (get_member key t)

pub tables_few : (key : List ℕ) (t : Members) → length (tables key t) ≤ 1
tables_few key t = few_optional as_array are_tables WrongType (get_member key t)

pub version_few : (t : Members) → length (version t) ≤ 1
version_few t = few_required as_integer is_version BadVersion (get_member (codes "version") t)

pub profiles_few : (t : Members) → length (profiles t) ≤ 1
profiles_few t = few_optional as_table hold_tables WrongType (get_member (codes "profile") t)
