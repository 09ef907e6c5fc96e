-- What landtree_rights and landtree_why answer: questions about the profile of a policy. own
use Rattle.std.specs.Prelude.{◌≡◌, ◌≢◌, ◌⊎◌, ◌<◌, ◌≤◌, ⊤, ℕ, List, [], ◌∷◌, ◌++◌, Option, Some, None, ◌==◌, codes}
use Rattle.std.specs.Prelude.{if◌then◌else◌}
use Rattle.std.specs.Str.{IsUtf8}
use Rattle.std.specs.Str.Lines.{lines}
use Rattle.ll_rights.specs.declared.limits.TheConstants.{TREE_NODES}
use Rattle.ll_program.specs.Options.{TreeOrder, profile_tree}
use Rattle.ll_program.specs.Policy.{IsSetup, Lacks}
use Rattle.ll_program.specs.Rights.{RightsOrder, of_profile}
use Rattle.ll_program.specs.declared.failure.Failure.{Failure}
use Rattle.ll_program.specs.declared.failure.Failure.TheVariants as failures
use Rattle.ll_program.specs.declared.report.AnswerForm.{AnswerForm}
use Rattle.ll_program.specs.declared.report.AnswerForm.TheVariants.{Json}
use Rattle.ll_session.specs.declared.refusal.Refusal.{Refusal}
use Rattle.ll_session.specs.declared.setup.Setup.{Setup}
use Rattle.ll_commands.specs.OpenedTree.{IsStopped}
use Rattle.ll_commands.specs.Rights.{IsTable}
use Rattle.ll_commands.specs.Why.{IsCommandWhy}
use Rattle.ll_why.specs.declared.style.WhyStyle.TheVariants.{Lines}
use Rattle.ll_embed.specs.Answers as answers
use Rattle.ll_embed.specs.Answers.{fault_at}
use Rattle.ll_embed.specs.Lines.{LacksCommand, LacksPath}
use Rattle.ll_embed.specs.declared.ask_fault.AskFault.{AskFault}
use Rattle.ll_embed.specs.declared.ask_fault.AskFault.TheVariants.{PolicyMissing, ProfileMissing, Tree, WrongCommand}
use Rattle.ll_embed.specs.declared.ask_fault.AskFault.TheVariants.{WrongForm, WrongPath}
use Rattle.ll_embed.specs.declared.asked.ProfileGiven.{ProfileGiven}
use Rattle.ll_embed.specs.declared.fault.Fault.TheVariants as faults

-- ---- the tree that is asked about

-- a policy, one of its profiles, and the limit of live nodes
pub record ProfileOrder : Type 0 where
  pub nodes : ℕ
  pub policy : List ℕ
  pub profile : List ℕ

abbrev pub profile_order_in : ProfileGiven → ProfileOrder
profile_order_in g = record { nodes = g.nodes; policy = g.policy.now; profile = g.profile.now }

-- both texts are given, the profile's is UTF-8, and the number is within its bounds
pub record IsAsked (o : ProfileOrder) : Type 0 where
  pub policy : o.policy ≢ []
  pub profile : o.profile ≢ []
  pub utf8 : IsUtf8 o.profile
  pub some : 1 ≤ o.nodes
  pub most : o.nodes ≤ TREE_NODES

-- the tree that the program's words ask for, if the file of this name has the policy
abbrev pub tree_asked : ProfileOrder → TreeOrder
tree_asked o = profile_tree (codes "policy") o.profile o.nodes

-- why there is no such tree
abbrev pub LacksTree : ProfileOrder → AskFault → Type 0
LacksTree o PolicyMissing = o.policy ≡ []
LacksTree o ProfileMissing = o.profile ≡ []
LacksTree o (Tree faults.Misfit) = 1 ≤ o.nodes → o.nodes ≤ TREE_NODES → ⊥
LacksTree o (Tree faults.NoProfile) = (IsUtf8 o.profile → ⊥) ⊎ Lacks (tree_asked o) o.policy failures.CommandLine
LacksTree o (Tree (faults.Policy fault)) = Lacks (tree_asked o) o.policy (failures.Policy fault)
LacksTree o (Tree faults.Opening) =
    (setup : Setup) × (refusal : Refusal) × IsSetup (tree_asked o) o.policy setup × IsStopped setup refusal
LacksTree o (Tree faults.NoMemory) = ⊤
LacksTree o fault = ⊥

abbrev pub ask_status : AskFault → ℕ
ask_status (Tree fault) = answers.status_of fault
ask_status fault = 2

-- what the program's failure at a text's lines is here, which are wrong like this
abbrev pub fault_of_lines : Failure → (wrong : AskFault) → AskFault
fault_of_lines failures.CommandLine wrong = wrong
fault_of_lines failure wrong = Tree (fault_at failure)

-- ---- the table of rights

abbrev pub answer_form : ℕ → Option AnswerForm
answer_form form = if form == 2 then Some Json else None

-- the program's words that ask for the same
abbrev pub rights_order : ProfileOrder → (form : ℕ) (names : List ℕ) → RightsOrder
rights_order o form names = record {
  policy = codes "policy";
  scope = Some (of_profile o.profile);
  nodes = o.nodes;
  paths = lines names;
  layers = form == 1;
  form = answer_form form;
}

-- the program's table
abbrev pub IsRightsTold : ProfileOrder → (form : ℕ) (names : List ℕ) → (status : ℕ) (text : List ℕ) → Type 0
IsRightsTold o form names status text =
    IsAsked o × (form ≤ 2) × IsTable (rights_order o form names) o.profile o.policy text × (status ≡ 0)

-- why there is none
abbrev pub LacksRights : ProfileOrder → (form : ℕ) (names : List ℕ) → AskFault → Type 0
LacksRights o form names WrongForm = 2 < form
LacksRights o form names WrongPath = LacksPath names
LacksRights o form names fault = LacksTree o fault

abbrev pub RightsAnswers : ProfileOrder → (form : ℕ) (names : List ℕ) → (status : ℕ) (text : List ℕ) → Type 0
RightsAnswers o form names status text =
    IsRightsTold o form names status text
    ⊎ ((fault : AskFault) × LacksRights o form names fault × (status ≡ ask_status fault))

-- ---- why a command is answered so

-- the program's explanation of the last line's command, after those of the lines before
abbrev pub IsWhyTold : ProfileOrder → (commands : List ℕ) → (status : ℕ) (text : List ℕ) → Type 0
IsWhyTold o commands status text =
    (before : List (List ℕ)) × (last : List ℕ) × IsAsked o × (lines commands ≡ before ++ last ∷ [])
    × IsCommandWhy Lines (tree_asked o) o.policy before last text × (status ≡ 0)

abbrev pub LacksWhy : ProfileOrder → (commands : List ℕ) → AskFault → Type 0
LacksWhy o commands WrongCommand = LacksCommand commands
LacksWhy o commands fault = LacksTree o fault

abbrev pub WhyAnswers : ProfileOrder → (commands : List ℕ) → (status : ℕ) (text : List ℕ) → Type 0
WhyAnswers o commands status text =
    IsWhyTold o commands status text
    ⊎ ((fault : AskFault) × LacksWhy o commands fault × (status ≡ ask_status fault))
