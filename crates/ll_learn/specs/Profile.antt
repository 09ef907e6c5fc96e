-- The text of a learned profile, in the format of policies (docs/PROGRAM.md, "Policies"). own
use Rattle.std.specs.Prelude.{ℕ, Bool, ◌==◌, ◌||◌, List, [], ◌∷◌, ◌++◌, codes, map, if◌then◌else◌}
use Rattle.std.specs.Prelude.{Option, Some, None}
use Rattle.std.specs.List.{concat, flat_map}
use Rattle.ll_rights.specs.Access.{access_text}
use Rattle.ll_path.specs.Path.{path_text}
use Rattle.ll_path.specs.declared.target.Target.TheVariants.{Good}
use Rattle.ll_seq.specs.declared.call.Call.{Call}
use Rattle.ll_seq.specs.declared.call.Call.TheVariants.{Allow, Confine, Ruleset}
use Rattle.ll_learn.specs.declared.needs.Origin.{Origin}
use Rattle.ll_learn.specs.declared.profile.LearnedRule.{LearnedRule}
use Rattle.ll_learn.specs.declared.profile.LearnedProfile.{LearnedProfile}

-- in a string of TOML, a backslash precedes a quotation mark (34) and a backslash (92)
abbrev pub toml_byte : ℕ → List ℕ
toml_byte b = if (b == 34) || (b == 92) then 92 ∷ b ∷ [] else b ∷ []

-- a text without control characters, as a string of TOML
abbrev pub toml_string : List ℕ → List ℕ
toml_string text = 34 ∷ (flat_map toml_byte text ++ 34 ∷ [])

abbrev pub least_line : List ℕ
least_line =
    codes "# least: at the start, each layer over these rights that lets these calls pass grants all this one grants\n"

-- What is promised of the profile. These rights are those that it handles, and the start is the cut
abbrev pub head_line : Bool → List ℕ
head_line is_least = if is_least then least_line else codes "# passes, and no single right can be left out\n"

-- the comment on an entry, if there is one. note: the line for it
abbrev pub comment : (Origin → List ℕ) → Option Origin → List ℕ
comment note None = []
comment note (Some entry) = concat (codes "# " ∷ note entry ∷ [])

-- a rule: an empty line, a comment on an entry that needs it, and its keys
abbrev pub rule_text : (Origin → List ℕ) → List ℕ → LearnedRule → List ℕ
rule_text note name rule = concat (
    codes "\n" ∷ comment note rule.needed_by ∷ codes "[[profile." ∷ name ∷ codes ".layer.rule]]\npath = "
    ∷ toml_string (path_text rule.path) ∷ codes "\nrights = \"" ∷ access_text rule.rights.0 ∷ codes "\"\n" ∷ [])

-- one layer, and its rules in order
abbrev pub profile_text : (Origin → List ℕ) → List ℕ → LearnedProfile → List ℕ
profile_text note name profile = concat (
    head_line profile.is_least ∷ codes "[[profile." ∷ name ∷ codes ".layer]]\nhandled = \""
    ∷ access_text profile.handled.0 ∷ codes "\"\n" ∷ flat_map (rule_text note name) profile.rules.items ∷ [])

-- ---- The profile as calls

-- adds the rule to ruleset 0
abbrev pub call_of : LearnedRule → Call
call_of rule = Allow 0 (Good rule.path) rule.rights

-- the calls by which a client that has created no ruleset gets the layer
abbrev pub calls_of : LearnedProfile → List Call
calls_of profile = Ruleset profile.handled ∷ (map call_of profile.rules.items ++ Confine 0 ∷ [])
