-- What a policy grants a client more and less than an older one, a line for each path. own
use Rattle.std.specs.Prelude.{◌≡◌, ℕ, Bool, true, false, not, ◌&&◌, ◌||◌, ◌==◌, List, [], ◌∷◌, ◌++◌, Option, Some, None}
use Rattle.std.specs.Prelude.{bytes_eq, codes, if◌then◌else◌, option_to_list}
use Rattle.std.specs.List.{concat, flat_map, list_any}
use Rattle.std.specs.Option.{option_map_or}
use Rattle.ll_rights.specs.declared.kind.Kind.{Kind}
use Rattle.ll_rights.specs.Kind.{kind_text}
use Rattle.ll_path.specs.Path.{Path, path_text}
use Rattle.ll_rules.specs.Layer.{Layer}
use Rattle.ll_seq.specs.declared.call.Call.{Call}
use Rattle.ll_seq.specs.State.{State}
use Rattle.ll_why.specs.LayerDifference.{layer_differences, same_layers}
use Rattle.ll_why.specs.PathRows.{made_path}
use Rattle.ll_why.specs.Quoted.{json_string}
use Rattle.ll_why.specs.Rights.{AreRightsAt}
use Rattle.ll_why.specs.RightsJson.{there_json}
use Rattle.ll_why.specs.Signed.{change_tokens}
use Rattle.ll_why.specs.Table.{behind, row_tokens}
use Rattle.ll_why.specs.declared.rights.PathRights.{PathRights}
use Rattle.ll_why.specs.declared.rights.RightsAt.{RightsAt}
use Rattle.ll_why.specs.declared.rights.RightsAt.TheVariants.{Node, New, Nowhere}
use Rattle.ll_why.specs.declared.difference.DifferenceStyle.{DifferenceStyle}
use Rattle.ll_why.specs.declared.difference.DifferenceStyle.TheVariants.{Line, Json}
use Rattle.ll_why.specs.declared.comparison.View.{View}
use Rattle.ll_why.specs.declared.comparison.Comparison.{Comparison}

-- ---- whether what is granted at a path differs

abbrev pub same_kind : Kind → Kind → Bool
same_kind old new = bytes_eq (kind_text old) (kind_text new)

abbrev pub same_kinds : Option Kind → Option Kind → Bool
same_kinds None None = true
same_kinds None (Some new) = false
same_kinds (Some old) None = false
same_kinds (Some old) (Some new) = same_kind old new

-- there is something else than before: a node of another kind, a node or none, another thing in place of a directory
abbrev pub is_turned : (old new : RightsAt) → Bool
is_turned (Node old) (Node new) = not (same_kind old.kind new.kind)
is_turned (New file directory) (New file' directory') = false
is_turned (Nowhere old) (Nowhere new) = not (same_kinds old new)
is_turned old new = true

-- the layers grant the same rights, one by one
abbrev pub same_by_layers : PathRights → PathRights → Bool
same_by_layers old new = same_layers old.layers.items new.layers.items

-- some layer grants other rights than before on the node, or on a new file or directory
abbrev pub is_changed : (old new : RightsAt) → Bool
is_changed (Node old) (Node new) = not (same_by_layers old new)
is_changed (New file directory) (New file' directory') =
    not (same_by_layers file file' && same_by_layers directory directory')
is_changed old new = false

abbrev pub differs : (old new : RightsAt) → Bool
differs old new = is_turned old new || is_changed old new

-- ---- the line of a path

-- all layers together grant the same rights
abbrev pub same_rights : PathRights → PathRights → Bool
same_rights old new = old.rights.0 == new.rights.0

-- what all layers together grant more and less; if they grant the same, what single layers do
abbrev pub rights_change : (old new : PathRights) → List (List ℕ)
rights_change old new =
    if same_rights old new then layer_differences old.layers.items new.layers.items
    else change_tokens old.rights.0 new.rights.0

-- a word, and what is granted more and less
abbrev pub change_of : List ℕ → (old new : PathRights) → List (List ℕ)
change_of word old new = word ∷ rights_change old new

-- on a node of the same kind
abbrev pub node_change : (old new : PathRights) → List (List ℕ)
node_change old new = change_of (kind_text new.kind) old new

-- on a new file, and on a new directory
abbrev pub new_change : (file directory file' directory' : PathRights) → List (List ℕ)
new_change file directory file' directory' =
    (codes "missing" ∷ []) ++ change_of (codes "new-file") file file'
    ++ change_of (codes "new-dir") directory directory'

abbrev pub kept_tokens : (old new : RightsAt) → List (List ℕ)
kept_tokens (Node old) (Node new) = node_change old new
kept_tokens (New file directory) (New file' directory') = new_change file directory file' directory'
kept_tokens old new = []

-- something else is there: both rows
abbrev pub turned_tokens : Path → (old new : RightsAt) → List (List ℕ)
turned_tokens path old new =
    (codes "was" ∷ []) ++ row_tokens path old false ++ (codes "is" ∷ []) ++ row_tokens path new false

abbrev pub difference_tokens : Path → (old new : RightsAt) → List (List ℕ)
difference_tokens path old new = if is_turned old new then turned_tokens path old new else kept_tokens old new

abbrev pub difference_line : Path → (old new : RightsAt) → List ℕ
difference_line path old new = path_text path ++ behind (difference_tokens path old new) ++ 10 ∷ []

-- an object with both. RFC 8259
abbrev pub difference_json : Path → (old new : RightsAt) → List ℕ
difference_json path old new = concat (
    codes "{\"path\": " ∷ json_string (path_text path) ∷ codes ", \"old\": {" ∷ there_json path old
    ∷ codes "}, \"new\": {" ∷ there_json path new ∷ codes "}}\n" ∷ [])

abbrev pub difference_by : DifferenceStyle → Path → (old new : RightsAt) → List ℕ
difference_by Line path old new = difference_line path old new
difference_by Json path old new = difference_json path old new

-- a line only where something differs
abbrev pub difference_in : DifferenceStyle → Path → (old new : RightsAt) → List ℕ
difference_in style path old new = if differs old new then difference_by style path old new else []

-- ---- the lines of several paths

-- a tree, and the layers of its client
abbrev pub Seen : Type 0
Seen = State × List Layer

-- the lines of these paths, in order; and whether anything differs
abbrev pub AreDifferences : (old new : Seen) → DifferenceStyle → List Path → (found : Bool) → List ℕ → Type 0
AreDifferences old new style [] found text = (found ≡ false) × (text ≡ [])
AreDifferences old new style (path ∷ paths) found text =
    (was is : RightsAt) × (later : Bool) × (rest : List ℕ) × AreRightsAt old.0 old.1 path was
    × AreRightsAt new.0 new.1 path is × AreDifferences old new style paths later rest
    × (found ≡ (differs was is || later)) × (text ≡ difference_in style path was is ++ rest)

abbrev pub seen_by : View → Seen
seen_by view = (view.tree.now, view.domain.now)

-- the same of these two trees
abbrev pub AreCompared : Comparison → List Path → (found : Bool) → List ℕ → Type 0
AreCompared it = AreDifferences (seen_by it.old) (seen_by it.new) it.style

-- the lines of these paths are appended
abbrev pub AddsDifferences : Comparison → List Path → (found found' : Bool) → (text text' : List ℕ) → Type 0
AddsDifferences it paths found found' text text' =
    (more : Bool) × (lines : List ℕ) × AreCompared it paths more lines × (found' ≡ (found || more))
    × (text' ≡ text ++ lines)

-- ---- the paths that are compared

-- the call creates a node at this path
abbrev pub creates : Path → Call → Bool
creates path call = option_map_or (λ made. bytes_eq (path_text made) (path_text path)) (made_path call) false

-- the path, if none of these calls creates a node there
abbrev pub unless_created : List Call → Path → Option Path
unless_created others path = if list_any (creates path) others then None else Some path

-- the path of the node that the call creates, if any, and if no other call does
abbrev pub only_path : List Call → Option Path → Option Path
only_path others None = None
only_path others (Some path) = unless_created others path

-- those of the nodes that these calls create and no other call does
abbrev pub only_paths : (others calls : List Call) → List Path
only_paths others = flat_map (λ call. option_to_list (only_path others (made_path call)))

-- these paths, or without any the root, those of the new policy's nodes, and then those of the old one's that aren't
-- among them
abbrev pub paths_compared : List Path → (new old : List Call) → List Path
paths_compared [] new old = [] ∷ (only_paths [] new ++ only_paths new old)
paths_compared (path ∷ paths) new old = path ∷ paths
