-- The faults of a policy's document, in order. The first is reported. own
use Rattle.std.specs.Prelude.{ℕ, ℤ, Bool, false, not, ◌==◌, List, [], ◌∷◌, ◌++◌, Option, Some, None, pos, negsuc, codes}
use Rattle.std.specs.Prelude.{flat_map, if◌then◌else◌}
use Rattle.toml.specs.Data.{Data, Members, get_member, as_str, as_integer, as_array, as_table}
use Rattle.ll_policy.specs.declared.fault.PolicyFault.{PolicyFault}
use Rattle.ll_policy.specs.declared.fault.PolicyFault.TheVariants.{NotToml, UnknownKey, MissingKey, WrongType}
use Rattle.ll_policy.specs.declared.fault.PolicyFault.TheVariants.{BadVersion, BadAbi, BadName, BadPath, BadKind}
use Rattle.ll_policy.specs.declared.fault.PolicyFault.TheVariants.{BadRights, BadData}
use Rattle.ll_policy.specs.Table.{has_other_key, are_tables, hold_tables, tables_at, named_tables_at, text_at}
use Rattle.ll_policy.specs.Table.{integer_at}
use Rattle.ll_policy.specs.Value.{is_version, is_level, is_path, is_kind, is_rights, is_data, is_name}

-- the fault, if the test holds
abbrev pub fault_if : Bool → PolicyFault → List PolicyFault
fault_if b fault = if b then fault ∷ [] else []

-- ---- a key

-- the faults of a value: another type, or a failed test
abbrev pub typed : {A : Type 0} → (A → Bool) → PolicyFault → Option A → List PolicyFault
typed passes bad None = WrongType ∷ []
typed passes bad (Some a) = fault_if (not (passes a)) bad

-- a key that must be there: its type, the test of its value, and the fault of a value that fails
abbrev pub required : {A : Type 0} → (Data → Option A) → (A → Bool) → PolicyFault → Option Data → List PolicyFault
required as_type passes bad None = MissingKey ∷ []
required as_type passes bad (Some d) = typed passes bad (as_type d)

-- a key that may be missing
abbrev pub optional : {A : Type 0} → (Data → Option A) → (A → Bool) → PolicyFault → Option Data → List PolicyFault
optional as_type passes bad None = []
optional as_type passes bad (Some d) = typed passes bad (as_type d)

-- keys that the table may not have
abbrev pub other_keys : List (List ℕ) → Members → List PolicyFault
other_keys known t = fault_if (has_other_key known t) UnknownKey

-- ---- a table

abbrev pub node_faults : Members → List PolicyFault
node_faults t =
    other_keys (codes "path" ∷ codes "kind" ∷ codes "data" ∷ []) t
    ++ required as_str is_path BadPath (get_member (codes "path") t)
    ++ required as_str is_kind BadKind (get_member (codes "kind") t)
    ++ optional as_str (is_data (text_at (codes "kind") t)) BadData (get_member (codes "data") t)

abbrev pub rule_faults : Members → List PolicyFault
rule_faults t =
    other_keys (codes "path" ∷ codes "rights" ∷ []) t
    ++ required as_str is_path BadPath (get_member (codes "path") t)
    ++ required as_str is_rights BadRights (get_member (codes "rights") t)

-- the faults of a layer's own keys
abbrev pub own_layer_faults : Members → List PolicyFault
own_layer_faults t =
    other_keys (codes "handled" ∷ codes "rule" ∷ []) t
    ++ required as_str is_rights BadRights (get_member (codes "handled") t)
    ++ optional as_array are_tables WrongType (get_member (codes "rule") t)

-- the layer's own keys, then its rules
abbrev pub layer_faults : Members → List PolicyFault
layer_faults t = own_layer_faults t ++ flat_map rule_faults (tables_at (codes "rule") t)

-- the faults of a profile's name and its own keys
abbrev pub own_profile_faults : List ℕ × Members → List PolicyFault
own_profile_faults profile =
    fault_if (not (is_name profile.0)) BadName
    ++ other_keys (codes "layer" ∷ []) profile.1
    ++ optional as_array are_tables WrongType (get_member (codes "layer") profile.1)

-- the profile's name, its own keys, then its layers
abbrev pub profile_faults : List ℕ × Members → List PolicyFault
profile_faults profile = own_profile_faults profile ++ flat_map layer_faults (tables_at (codes "layer") profile.1)

-- ---- the document

-- version 2 of the format has one more key
abbrev pub is_two : Option ℤ → Bool
is_two None = false
is_two (Some (pos n)) = n == 2
is_two (Some (negsuc n)) = false

abbrev pub top_keys : Bool → List (List ℕ)
top_keys two = if two then codes "version" ∷ codes "abi" ∷ codes "node" ∷ codes "profile" ∷ []
    else codes "version" ∷ codes "node" ∷ codes "profile" ∷ []

abbrev pub level_faults : Bool → Members → List PolicyFault
level_faults two t = if two then required as_integer is_level BadAbi (get_member (codes "abi") t) else []

abbrev pub top_faults : Members → List PolicyFault
top_faults t = let two = is_two (integer_at (codes "version") t) in
    other_keys (top_keys two) t
    ++ required as_integer is_version BadVersion (get_member (codes "version") t)
    ++ level_faults two t
    ++ optional as_array are_tables WrongType (get_member (codes "node") t)
    ++ optional as_table hold_tables WrongType (get_member (codes "profile") t)

abbrev pub policy_faults : Members → List PolicyFault
policy_faults t =
    top_faults t
    ++ flat_map node_faults (tables_at (codes "node") t)
    ++ flat_map profile_faults (named_tables_at (codes "profile") t)

-- the faults of a document read as TOML, or of one that isn't TOML
abbrev pub document_faults : Option Members → List PolicyFault
document_faults None = NotToml ∷ []
document_faults (Some t) = policy_faults t
