-- What a policy grants a profile more and less than an old one. own
use Rattle.std.specs.Prelude.{◌≡◌, ◌⊎◌, ℕ, Bool, true, false, List, Option, Some, None, map}
use Rattle.clap.specs.Words.{Text}
use Rattle.ll_path.specs.Path.{path_of_text}
use Rattle.ll_seq.specs.State.{State}
use Rattle.ll_seq.specs.Step.{client_of}
use Rattle.ll_program.specs.Options.{RightsOrder, TreeOrder, profile_tree}
use Rattle.ll_program.specs.Policy.{IsSetup}
use Rattle.ll_program.specs.declared.conclusion.Conclusion.{Conclusion}
use Rattle.ll_program.specs.declared.conclusion.Conclusion.TheVariants.{Differs, Done}
use Rattle.ll_program.specs.declared.failure.Failure.{Failure}
use Rattle.ll_program.specs.declared.report.AnswerForm.{AnswerForm}
use Rattle.ll_program.specs.declared.report.AnswerForm.TheVariants as answers
use Rattle.ll_session.specs.declared.setup.Setup.{Setup}
use Rattle.ll_commands.specs.OpenedTree.{Opens}
use Rattle.ll_commands.specs.Output.{FailsToTell}
use Rattle.ll_commands.specs.Rights.{LacksRights, loader_calls, table_tree}
use Rattle.ll_why.specs.Difference.{AreDifferences, Seen, paths_compared}
use Rattle.ll_why.specs.declared.difference.DifferenceStyle.{DifferenceStyle}
use Rattle.ll_why.specs.declared.difference.DifferenceStyle.TheVariants.{Json, Line}

abbrev pub difference_style_by : Option AnswerForm → DifferenceStyle
difference_style_by (Some answers.Json) = Json
difference_style_by form = Line

-- the tree by the old policy
abbrev pub old_tree : RightsOrder → (old profile : Text) → TreeOrder
old_tree order old profile = profile_tree old profile order.nodes

-- the tree that the policy with this text opens, and its client with the profile
abbrev pub IsOpened : TreeOrder → (policy : List ℕ) → Setup → (client : ℕ) → State → Type 0
IsOpened tree policy setup client s = IsSetup tree policy setup × Opens setup client s

-- what is seen of an opened tree: its state, and the client's layers
abbrev pub seen_in : State → (client : ℕ) → Seen
seen_in s client = (s, (client_of s client).domain)

-- The difference of the profile's rights, from the policy with the first text to the one with the second: the lines of
-- the paths, or without any of the root and both policies' nodes; and whether there is a difference
abbrev pub IsDifference : RightsOrder → (old profile : Text) → (was is : List ℕ) → (found : Bool) → (lines : List ℕ)
    → Type 0
IsDifference order old profile was is found lines =
    (before after : Setup) × (first second : ℕ) × (s t : State)
    × IsOpened (old_tree order old profile) was before first s
    × IsOpened (table_tree order profile) is after second t
    × AreDifferences (seen_in s first) (seen_in t second) (difference_style_by order.form)
    (paths_compared (map path_of_text order.paths) (loader_calls after) (loader_calls before)) found lines

-- why there is none: one of the policies doesn't open a tree, for a reason as that of a table
abbrev pub LacksDifference : RightsOrder → (old profile : Text) → (was is : List ℕ) → Failure → Type 0
LacksDifference order old profile was is failure =
    LacksRights order.paths (old_tree order old profile) was failure
    ⊎ LacksRights order.paths (table_tree order profile) is failure

-- what is concluded
abbrev pub concluded_by : (found : Bool) → Conclusion
concluded_by false = Done
concluded_by true = Differs

-- the lines are written, and conclude so
abbrev pub IsDifferenceSo : RightsOrder → (old profile : Text) → (was is : List ℕ) → Conclusion → (lines : List ℕ)
    → Type 0
IsDifferenceSo order old profile was is conclusion lines =
    (found : Bool) × IsDifference order old profile was is found lines × (conclusion ≡ concluded_by found)

-- why they aren't written whole
abbrev pub TellsNoDifference : RightsOrder → (old profile : Text) → (was is : List ℕ) → (out out' : Option (List ℕ))
    → Failure → Type 0
TellsNoDifference order old profile was is out out' failure =
    FailsToTell (λ lines. (found : Bool) × IsDifference order old profile was is found lines)
    (LacksDifference order old profile was is) out out' failure
