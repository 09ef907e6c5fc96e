-- The rows of a table of rights, one for each path. own
use Rattle.std.specs.Prelude.{◌≡◌, ℕ, List, [], ◌∷◌, ◌++◌, Option, Some, None, option_to_list}
use Rattle.std.specs.List.{flat_map}
use Rattle.ll_path.specs.Path.{Path}
use Rattle.ll_rules.specs.Layer.{Layer}
use Rattle.ll_seq.specs.Call.{target_path}
use Rattle.ll_seq.specs.declared.call.Call.{Call}
use Rattle.ll_seq.specs.declared.call.Call.TheVariants.{Make, Open, Read, Write, Ftruncate, Close, Truncate, ReadDir}
use Rattle.ll_seq.specs.declared.call.Call.TheVariants.{Stat, Exec, Unlink, Rmdir, Rename, RenameNoreplace, Exchange}
use Rattle.ll_seq.specs.declared.call.Call.TheVariants.{Link, Ruleset, Allow, Confine, Spawn, Connect}
use Rattle.ll_seq.specs.State.{State}
use Rattle.ll_why.specs.Rights.{AreRightsAt}
use Rattle.ll_why.specs.declared.rights.RightsAt.{RightsAt}
use Rattle.ll_why.specs.RightsJson.{path_json, profile_json}
use Rattle.ll_why.specs.Table.{row_line}
use Rattle.ll_why.specs.declared.path_rows.RowStyle.{RowStyle}
use Rattle.ll_why.specs.declared.path_rows.RowStyle.TheVariants.{Line, Json, ProfileJson}

abbrev pub row_in : RowStyle → Path → RightsAt → List ℕ
row_in (Line layers) path told = row_line path told layers
row_in Json path told = path_json path told
row_in (ProfileJson profile) path told = profile_json profile.now path told

-- a line for each path, in order
abbrev pub AreRows : State → List Layer → RowStyle → List Path → List ℕ → Type 0
AreRows s domain style [] text = text ≡ []
AreRows s domain style (path ∷ paths) text =
    (told : RightsAt) × (rest : List ℕ) × AreRightsAt s domain path told × AreRows s domain style paths rest
    × (text ≡ row_in style path told ++ rest)

-- the text has a line for each path appended
abbrev pub AddsRows : State → List Layer → RowStyle → List Path → (old new : List ℕ) → Type 0
AddsRows s domain style paths old new = (rows : List ℕ) × AreRows s domain style paths rows × (new ≡ old ++ rows)

-- the path of the node that the call creates, if any
abbrev pub made_path : Call → Option Path
made_path (Make kind target) = target_path target
made_path (Open mode target) = None
made_path (Read fd offset count) = None
made_path (Write fd offset bytes) = None
made_path (Ftruncate fd size) = None
made_path (Close fd) = None
made_path (Truncate target size) = None
made_path (ReadDir target) = None
made_path (Stat target) = None
made_path (Exec target) = None
made_path (Unlink target) = None
made_path (Rmdir target) = None
made_path (Rename old new) = None
made_path (RenameNoreplace old new) = None
made_path (Exchange old new) = None
made_path (Link old new) = None
made_path (Ruleset rights) = None
made_path (Allow number target rights) = None
made_path (Confine number) = None
made_path Spawn = None
made_path Connect = None

abbrev pub made_paths : List Call → List Path
made_paths = flat_map (λ call. option_to_list (made_path call))

-- these paths, or without any those of the nodes that the calls create
abbrev pub paths_or_nodes : List Path → List Call → List Path
paths_or_nodes [] calls = made_paths calls
paths_or_nodes (path ∷ paths) calls = path ∷ paths
