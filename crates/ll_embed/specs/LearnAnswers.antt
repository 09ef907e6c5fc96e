-- What is learned from a saved history. own
use Rattle.std.specs.Prelude.{◌≡◌, ◌≢◌, ◌⊎◌, ◌<◌, ◌≤◌, ◌^◌, ℕ, ◌==◌, List, [], ◌∷◌, ◌++◌, Option, Some, None, codes}
use Rattle.std.specs.Prelude.{decimal, map, slice_get, string_bytes, true, if◌then◌else◌}
use Rattle.std.specs.Str.{IsUtf8}
use Rattle.std.specs.Str.Lines.{lines}
use Rattle.ll_rights.specs.Access.{access_text}
use Rattle.ll_rights.specs.declared.access.Access.{Access}
use Rattle.ll_rights.specs.declared.limits.TheConstants.{RULESET_INODES}
use Rattle.ll_path.specs.Path.{Path, path_of_text, path_text}
use Rattle.ll_policy.specs.Value.{is_name}
use Rattle.ll_learn.specs.SavedLesson.{IsLearnedBy, line_in, reason, stray_line}
use Rattle.ll_learn.specs.declared.fault.Unlearned.{Unlearned}
use Rattle.ll_learn.specs.declared.fault.Unlearned.TheVariants as fault
use Rattle.ll_learn.specs.declared.saved_lesson.Learned.{Learned}
use Rattle.ll_learn.specs.declared.saved_lesson.Learned.TheVariants.{BadLine, Many, Nothing, Profile}
use Rattle.ll_learn.specs.declared.saved_lesson.SavedLesson.{SavedLesson}
use Rattle.ll_embed.specs.Answers.{status_of}
use Rattle.ll_embed.specs.Lines.{LacksPath}
use Rattle.ll_embed.specs.declared.fault.Fault.TheVariants.{Misfit, NoMemory}
use Rattle.ll_embed.specs.declared.learned_profile.LearnGiven.{LearnGiven}

-- ---- what is asked of a history

-- numbers, rights that no rule may have, directories, each in a line, and a name
pub record LearnOrder : Type 0 where
  pub client : ℕ
  pub most : ℕ
  pub never : List ℕ
  pub beneath : List ℕ
  pub name : List ℕ

abbrev pub learn_order_in : LearnGiven → LearnOrder
learn_order_in g = record {
  client = g.client;
  most = g.most;
  never = g.never.now;
  beneath = g.beneath.now;
  name = g.name.now;
}

-- the client 0 isn't given
abbrev pub client_by : ℕ → Option ℕ
client_by client = if client == 0 then None else Some client

-- the number 0 of rules stands for the most that a ruleset takes
abbrev pub most_by : ℕ → ℕ
most_by most = if most == 0 then RULESET_INODES else most

-- an empty name stands for `learned`
abbrev pub name_by : List ℕ → List ℕ
name_by [] = codes "learned"
name_by (b ∷ name) = b ∷ name

-- the rights that the text spells; an empty one withholds none
abbrev pub IsWithheld : List ℕ → Access → Type 0
IsWithheld [] rights = rights.0 ≡ 0
IsWithheld (b ∷ text) rights = b ∷ text ≡ access_text rights.0

-- what is asked
pub record IsLessonOf (o : LearnOrder) (lesson : SavedLesson) : Type 0 where
  pub client : lesson.client ≡ client_by o.client
  pub never : IsWithheld o.never lesson.never
  pub beneath : lesson.beneath.now ≡ map path_of_text (lines o.beneath)
  pub most : lesson.most ≡ most_by o.most
  pub few : o.most ≤ RULESET_INODES
  pub name : lesson.name.now ≡ name_by o.name
  pub valid : is_name lesson.name.now ≡ true

-- ---- what can't be asked

-- the text isn't empty and spells no rights
abbrev pub LacksRights : List ℕ → Type 0
LacksRights text =
    (text ≢ []) × ((IsUtf8 text → ⊥) ⊎ ((set : ℕ) → set < 2 ^ 64 → text ≢ access_text set))

abbrev pub IsNoName : List ℕ → Type 0
IsNoName name = (IsUtf8 name → ⊥) ⊎ (is_name (name_by name) ≢ true)

-- there are too many rules, or a text is wrong
abbrev pub IsMisasked : LearnOrder → Type 0
IsMisasked o = (RULESET_INODES < o.most) ⊎ LacksRights o.never ⊎ LacksPath o.beneath ⊎ IsNoName o.name

-- ---- answers

-- a line on what is wrong with a history: in this line of it, or as a whole
abbrev pub line_at : Option ℕ → List ℕ → List ℕ
line_at None words = words ++ codes "\n"
line_at (Some line) words = decimal line ++ codes ": " ++ words ++ codes "\n"

-- a path that leads to no node is a fault of what is asked
abbrev pub unlearned_status : Unlearned → ℕ
unlearned_status (fault.NoClient history) = 3
unlearned_status (fault.Unlike history) = 3
unlearned_status (fault.Illegal at) = 3
unlearned_status (fault.Denied at) = 3
unlearned_status (fault.Full at) = 3
unlearned_status (fault.Unmet at) = 3
unlearned_status (fault.NoNode index) = status_of Misfit
unlearned_status fault.NoMemory = status_of NoMemory

-- the path that leads to no node, if that is the fault
abbrev pub stray_path : List Path → Unlearned → Option Path
stray_path beneath (fault.NoNode index) = slice_get beneath index
stray_path beneath other = None

-- the line on why nothing is learned: on that path, or else on the history
abbrev pub unlearned_line : Unlearned → Option Path → List ℕ
unlearned_line fault (Some path) = stray_line (path_text path)
unlearned_line fault None = line_at (line_in fault) (reason fault)

-- The profile's text, or a line on why there is none. On too many rules the words are for people
abbrev pub IsLearnTold : (beneath : List Path) → Learned → (status : ℕ) → (text : List ℕ) → Type 0
IsLearnTold beneath (Profile written) status text = (text ≡ string_bytes written) × (status ≡ 0)
IsLearnTold beneath (BadLine line) status text = (text ≡ line_at (Some line) (codes "bad line")) × (status ≡ 3)
IsLearnTold beneath (Nothing fault) status text =
    (text ≡ unlearned_line fault (stray_path beneath fault)) × (status ≡ unlearned_status fault)
IsLearnTold beneath (Many rules) status text = status ≡ status_of Misfit

-- what the history teaches, if that can be asked
abbrev pub LearnAnswers : LearnOrder → (history : List ℕ) → (status : ℕ) → (text : List ℕ) → Type 0
LearnAnswers o history status text =
    ((lesson : SavedLesson) × (learned : Learned) × IsLessonOf o lesson × IsLearnedBy lesson history learned
    × IsLearnTold lesson.beneath.now learned status text)
    ⊎ (IsMisasked o × (status ≡ status_of Misfit))
    ⊎ (status ≡ status_of NoMemory)
