-- Layers as JSON. RFC 8259
use Rattle.std.specs.Prelude.{ℕ, Bool, List, [], ◌∷◌, Option, Some, None, codes, decimal, if◌then◌else◌, unwrap_or}
use Rattle.std.specs.List.{concat, join_by}
use Rattle.ll_rights.specs.Kind.{kind_text}
use Rattle.ll_rights.specs.declared.kind.Kind.{Kind}
use Rattle.ll_seq.specs.declared.call.Call.{Call}
use Rattle.ll_program.specs.declared.denied.Denied.{Denied}
use Rattle.ll_program.specs.Options.{ExportOrder, nothing_denied}
use Rattle.ll_policy.specs.declared.profile.Rule.{Rule}
use Rattle.ll_policy.specs.declared.profile.Layer.{Layer}
use Rattle.ll_commands.specs.declared.confinement.Confinement.{Confinement}
use Rattle.ll_commands.specs.Confinement.{kind_at}
use Rattle.ll_commands.specs.CProgram.{root_of}
use Rattle.ll_why.specs.Quoted.{json_names, json_string}

abbrev pub json_kind : Option Kind → List ℕ
json_kind (Some kind) = kind_text kind
json_kind None = []

abbrev pub json_rule : List Call → Rule → List ℕ
json_rule opening rule = concat (
    codes "      {\"path\": " ∷ json_string rule.path
    ∷ codes ", \"kind\": \"" ∷ json_kind (kind_at opening rule.path)
    ∷ codes "\", \"rights\": [" ∷ json_names rule.rights.0 ∷ codes "]}" ∷ [])

abbrev pub json_layer : List Call → Layer → List ℕ
json_layer opening layer = concat (
    codes "    {\"handled\": [" ∷ json_names layer.handled.0
    ∷ codes "], \"rules\": [\n" ∷ join_by (json_rule opening) (codes ",\n") layer.rules.items ∷ codes "\n    ]}" ∷ [])

abbrev pub json_flag : Bool → List ℕ
json_flag is_set = if is_set then codes "true" else codes "false"

abbrev pub json_denied : Denied → List ℕ
json_denied denied = concat (
    codes "{\"tcp\": " ∷ json_flag denied.tcp
    ∷ codes ", \"ioctl_dev\": " ∷ json_flag denied.ioctl_dev
    ∷ codes ", \"signal\": " ∷ json_flag denied.signal
    ∷ codes ", \"abstract_unix_socket\": " ∷ json_flag denied.abstract_unix_socket ∷ codes "}" ∷ [])

abbrev pub json_options : ExportOrder → List ℕ
json_options order = concat (
    codes "  \"follow\": " ∷ json_flag order.follow
    ∷ codes ",\n  \"best_effort\": " ∷ json_flag order.best_effort
    ∷ codes ",\n  \"deny\": " ∷ json_denied (unwrap_or order.deny nothing_denied) ∷ codes ",\n" ∷ [])

abbrev pub json_head : ExportOrder → ℕ → List ℕ
json_head order abi = concat (
    codes "{\n  \"version\": 1,\n  \"abi\": " ∷ decimal abi
    ∷ codes ",\n  \"root\": " ∷ json_string (root_of order)
    ∷ codes ",\n  \"also\": [" ∷ join_by json_string (codes ", ") order.also ∷ codes "],\n" ∷ [])

-- the options' values, and the layers, oldest first
unfoldable pub json_text : ExportOrder → Confinement → List ℕ
json_text order c = concat (
    json_head order c.abi ∷ json_options order
    ∷ codes "  \"layers\": [\n" ∷ join_by (json_layer c.opening.now) (codes ",\n") c.layers.now
    ∷ codes "\n  ]\n}\n" ∷ [])
