-- The rights of a policy's profile, as a table. own
use Rattle.std.specs.Prelude.{◌⊎◌, ⊤, ℕ, Bool, List, [], map, Option, Some, None}
use Rattle.std.specs.Option.{option_map_or}
use Rattle.clap.specs.Words.{Text}
use Rattle.ll_path.specs.Path.{Path, path_of_text}
use Rattle.ll_seq.specs.declared.call.Call.{Call}
use Rattle.ll_seq.specs.State.{State}
use Rattle.ll_seq.specs.Step.{client_of}
use Rattle.ll_program.specs.Options.{RightsOrder, TreeOrder, profile_tree}
use Rattle.ll_program.specs.declared.report.AnswerForm.{AnswerForm}
use Rattle.ll_program.specs.declared.report.AnswerForm.TheVariants as answers
use Rattle.ll_program.specs.Paths.{HasBadWord}
use Rattle.ll_program.specs.Policy.{IsSetup, Lacks}
use Rattle.ll_program.specs.declared.failure.Failure.{Failure}
use Rattle.ll_program.specs.declared.failure.Failure.TheVariants.{CommandLine, Policy, Opening, File, Output, Socket}
use Rattle.ll_program.specs.declared.failure.Failure.TheVariants.{NoMemory}
use Rattle.ll_session.specs.declared.setup.Setup.{Setup}
use Rattle.ll_commands.specs.OpenedTree.{Opens, IsStopped}
use Rattle.ll_commands.specs.Output.{FailsToTell}
use Rattle.ll_why.specs.PathRows.{AreRows, paths_or_nodes}
use Rattle.ll_why.specs.declared.path_rows.RowStyle.{RowStyle}
use Rattle.ll_why.specs.declared.path_rows.RowStyle.TheVariants.{Line, Json}

abbrev pub style_by : Option AnswerForm → (layers : Bool) → RowStyle
style_by (Some answers.Json) layers = Json
style_by form layers = Line layers

-- JSON has each layer always
abbrev pub style_of : RightsOrder → RowStyle
style_of order = style_by order.form order.layers

abbrev pub loader_calls : Setup → List Call
loader_calls setup = option_map_or (λ calls. calls.items) setup.loader []

-- the paths that the words name, or without words those of the policy's nodes
abbrev pub paths_told : List Text → Setup → List Path
paths_told words setup = paths_or_nodes (map path_of_text words) (loader_calls setup)

-- the tree whose first client has this profile
abbrev pub table_tree : RightsOrder → (profile : Text) → TreeOrder
table_tree order profile = profile_tree order.policy profile order.nodes

-- the table of the profile's rights in this style, if the policy's file has this text: those of its client after it
-- confined itself
abbrev pub IsTableIn : RowStyle → RightsOrder → (profile : Text) → (policy table : List ℕ) → Type 0
IsTableIn style order profile policy table =
    (setup : Setup) × (client : ℕ) × (s : State) × IsSetup (table_tree order profile) policy setup
    × Opens setup client s
    × AreRows s (client_of s client).domain style (paths_told order.paths setup) table

abbrev pub IsTable : RightsOrder → (profile : Text) → (policy table : List ℕ) → Type 0
IsTable order = IsTableIn (style_of order) order

-- Why the rights on these paths in this tree aren't known: a word spells no path; there is no setup; a call that the
-- policy asks for is refused like this; the file can't be read; NoMemory
abbrev pub LacksRights : (words : List Text) → TreeOrder → (policy : List ℕ) → Failure → Type 0
LacksRights words tree policy CommandLine = HasBadWord words ⊎ Lacks tree policy CommandLine
LacksRights words tree policy (Policy fault) = Lacks tree policy (Policy fault)
LacksRights words tree policy (Opening refusal) =
    (setup : Setup) × IsSetup tree policy setup × IsStopped setup refusal
LacksRights words tree policy File = ⊤
LacksRights words tree policy Output = ⊥
LacksRights words tree policy Socket = ⊥
LacksRights words tree policy NoMemory = ⊤

-- why there is no table
abbrev pub LacksTable : RightsOrder → (profile : Text) → (policy : List ℕ) → Failure → Type 0
LacksTable order profile = LacksRights order.paths (table_tree order profile)

-- why no table is written whole, if the policy's file has this text
abbrev pub MayFail : RightsOrder → (profile : Text) → (policy : List ℕ) → (out out' : Option (List ℕ)) → Failure
    → Type 0
MayFail order profile policy out out' failure =
    FailsToTell (IsTable order profile policy) (LacksTable order profile policy) out out' failure
