-- The rights at paths as JSON, an object on each line. RFC 8259
use Rattle.std.specs.Prelude.{ℕ, List, [], ◌∷◌, Option, Some, None, codes, take, ◌==◌, if◌then◌else◌}
use Rattle.std.specs.List.{concat, enumerate_from, flat_map, join_by}
use Rattle.ll_rights.specs.Kind.{kind_text}
use Rattle.ll_rights.specs.declared.kind.Kind.{Kind}
use Rattle.ll_path.specs.Path.{Path, path_text}
use Rattle.ll_why.specs.declared.grants.Grants.{Grants}
use Rattle.ll_why.specs.declared.grants.Ruled.{Ruled}
use Rattle.ll_why.specs.declared.rights.PathRights.{PathRights}
use Rattle.ll_why.specs.declared.rights.RightsAt.{RightsAt}
use Rattle.ll_why.specs.declared.rights.RightsAt.TheVariants.{Node, New, Nowhere}
use Rattle.ll_why.specs.Quoted.{json_names, json_string, quoted}

abbrev pub kind_json : Option Kind → List ℕ
kind_json (Some kind) = quoted (kind_text kind)
kind_json None = codes "null"

-- the rule on a node with this path's text
abbrev pub rule_json : List ℕ → ℕ → List ℕ
rule_json node rights = concat (
    codes "{\"path\": " ∷ json_string node ∷ codes ", \"rights\": [" ∷ json_names rights ∷ codes "]}" ∷ [])

-- the rights that the rule on the node with this many of the path's names allows, if any
abbrev pub ruled_json : Path → ℕ × Ruled → List (List ℕ)
ruled_json path r =
    if r.1.rights.0 == 0 then [] else rule_json (path_text (take r.0 path)) r.1.rights.0 ∷ []

-- what a layer doesn't restrict; what its rules allow, from the root on; what it doesn't grant
abbrev pub grants_fields : Path → Grants → List ℕ
grants_fields path g = concat (
    codes "\"unrestricted\": [" ∷ json_names g.free.0
    ∷ codes "], \"rules\": ["
    ∷ join_by (λ t. t) (codes ", ") (flat_map (ruled_json path) (enumerate_from 0 g.ruled.items))
    ∷ codes "], \"missing\": [" ∷ json_names g.missing.0 ∷ codes "]" ∷ [])

abbrev pub grants_json : Path → Grants → List ℕ
grants_json path g = concat (codes "{" ∷ grants_fields path g ∷ codes "}" ∷ [])

-- a node: its kind, what all layers grant on it, and what each does, the oldest first
abbrev pub node_json : Path → PathRights → List ℕ
node_json path told = concat (
    codes "\"kind\": \"" ∷ kind_text told.kind ∷ codes "\", \"rights\": [" ∷ json_names told.rights.0
    ∷ codes "], \"layers\": [" ∷ join_by (grants_json path) (codes ", ") told.layers.items ∷ codes "]" ∷ [])

-- no node: a new file and a new directory
abbrev pub new_json : Path → (file directory : PathRights) → List ℕ
new_json path file directory = concat (
    codes "\"kind\": null, \"parent\": \"dir\", \"new\": [{" ∷ node_json path file
    ∷ codes "}, {" ∷ node_json path directory ∷ codes "}]" ∷ [])

-- neither a node nor a directory for one
abbrev pub nowhere_json : Option Kind → List ℕ
nowhere_json kind = concat (
    codes "\"kind\": null, \"parent\": " ∷ kind_json kind ∷ codes ", \"new\": []" ∷ [])

abbrev pub there_json : Path → RightsAt → List ℕ
there_json path (Node told) = node_json path told
there_json path (New file directory) = new_json path file directory
there_json path (Nowhere kind) = nowhere_json kind

abbrev pub path_json : Path → RightsAt → List ℕ
path_json path told = concat (
    codes "{\"path\": " ∷ json_string (path_text path) ∷ codes ", " ∷ there_json path told ∷ codes "}\n" ∷ [])

-- the same, which begins with the profile of this name
abbrev pub profile_json : List ℕ → Path → RightsAt → List ℕ
profile_json profile path told = concat (
    codes "{\"profile\": " ∷ json_string profile ∷ codes ", \"path\": " ∷ json_string (path_text path)
    ∷ codes ", " ∷ there_json path told ∷ codes "}\n" ∷ [])
