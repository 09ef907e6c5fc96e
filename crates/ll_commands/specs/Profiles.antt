-- The rights of all profiles of a policy, a table for each. own
use Rattle.std.specs.Prelude.{◌≡◌, ◌⊎◌, ℕ, List, [], ◌∷◌, ◌++◌, Option, Some, None, codes, map}
use Rattle.toml.specs.Parse.{parse_document}
use Rattle.clap.specs.Words.{Text}
use Rattle.ll_policy.specs.Plan.{IsPlanOf, Plan}
use Rattle.ll_program.specs.Options.{RightsOrder, TreeOrder}
use Rattle.ll_program.specs.Paths.{HasBadWord}
use Rattle.ll_program.specs.Policy.{IsPolicy, Lacks}
use Rattle.ll_program.specs.declared.failure.Failure.{Failure}
use Rattle.ll_program.specs.declared.failure.Failure.TheVariants.{CommandLine}
use Rattle.ll_program.specs.declared.report.AnswerForm.TheVariants as answers
use Rattle.ll_commands.specs.Output.{FailsToTell}
use Rattle.ll_commands.specs.Rights.{IsTableIn, LacksTable, style_of}
use Rattle.ll_why.specs.declared.path_rows.RowStyle.{RowStyle}
use Rattle.ll_why.specs.declared.path_rows.RowStyle.TheVariants.{Json, Line, ProfileJson}

-- how a profile's rows are written among those of all: each object of JSON has the profile's name
abbrev pub IsStyleAmong : RightsOrder → (profile : Text) → RowStyle → Type 0
IsStyleAmong order profile (Line layers) = style_of order ≡ Line layers
IsStyleAmong order profile Json = ⊥
IsStyleAmong order profile (ProfileJson name) = (style_of order ≡ Json) × (name.now ≡ profile)

-- before rows of text, the profile's name
abbrev pub heading_in : RowStyle → (profile : Text) → List ℕ
heading_in (Line layers) profile = codes "[" ++ profile ++ codes "]\n"
heading_in Json profile = []
heading_in (ProfileJson name) profile = []

-- a profile's table among those of all
abbrev pub IsTableAmong : RightsOrder → (policy : List ℕ) → (profile : Text) → (table : List ℕ) → Type 0
IsTableAmong order policy profile table =
    (style : RowStyle) × (rows : List ℕ) × IsStyleAmong order profile style
    × IsTableIn style order profile policy rows × (table ≡ heading_in style profile ++ rows)

-- the tables of these profiles, in order
abbrev pub AreTables : RightsOrder → (policy : List ℕ) → List Text → (tables : List ℕ) → Type 0
AreTables order policy [] tables = tables ≡ []
AreTables order policy (profile ∷ profiles) tables =
    (table rest : List ℕ) × IsTableAmong order policy profile table × AreTables order policy profiles rest
    × (tables ≡ table ++ rest)

-- the tables of these profiles are appended
abbrev pub AddsTables : RightsOrder → (policy : List ℕ) → List Text → (old new : List ℕ) → Type 0
AddsTables order policy profiles old new =
    (tables : List ℕ) × AreTables order policy profiles tables × (new ≡ old ++ tables)

-- the first of these profiles that has no table has none for this reason
abbrev pub StopsAt : RightsOrder → (policy : List ℕ) → List Text → Failure → Type 0
StopsAt order policy [] failure = ⊥
StopsAt order policy (profile ∷ profiles) failure =
    LacksTable order profile policy failure
    ⊎ ((table : List ℕ) × IsTableAmong order policy profile table × StopsAt order policy profiles failure)

-- the names of all profiles, in the policy's order
abbrev pub profile_names : Plan → List Text
profile_names plan = map (λ profile. profile.0) plan.profiles

-- the tables of all profiles, if the policy's file has this text
abbrev pub IsAllTables : RightsOrder → (policy tables : List ℕ) → Type 0
IsAllTables order policy tables =
    IsPolicy policy × ((plan : Plan) × IsPlanOf (parse_document policy) plan
    × AreTables order policy (profile_names plan) tables)

-- Why there are no tables: a word spells no path; the policy gives no setup whatever is asked of it, as it has a fault
-- or can't be read, or for want of memory; or the first of its profiles without a table
abbrev pub LacksTables : RightsOrder → (policy : List ℕ) → Failure → Type 0
LacksTables order policy failure =
    ((failure ≡ CommandLine) × HasBadWord order.paths) ⊎ ((tree : TreeOrder) → Lacks tree policy failure)
    ⊎ ((plan : Plan) × IsPlanOf (parse_document policy) plan × StopsAt order policy (profile_names plan) failure)

-- why they aren't written whole
abbrev pub TellsNotAll : RightsOrder → (policy : List ℕ) → (out out' : Option (List ℕ)) → Failure → Type 0
TellsNotAll order policy out out' failure =
    FailsToTell (IsAllTables order policy) (LacksTables order policy) out out' failure
