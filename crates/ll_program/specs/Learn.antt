-- What the words of `learn` ask for. own
use Rattle.std.specs.Prelude.{◌≡◌, ◌≢◌, ◌<◌, ◌⊎◌, ◌^◌, ℕ, Bool, List, [], ◌∷◌, Option, Some, None, codes, unwrap_or}
use Rattle.std.specs.Prelude.{IfNone, IfSome, if◌then◌else◌, is_some}
use Rattle.clap.specs.Words.{Text}
use Rattle.ll_rights.specs.Access.{access_text}
use Rattle.ll_rights.specs.declared.access.Access.{Access}
use Rattle.ll_policy.specs.Value.{is_name}
use Rattle.ll_program.specs.Options.{LearnOrder}
use Rattle.ll_program.specs.Paths.{HasBadWord}
use Rattle.ll_program.specs.declared.learn.Lessons.{Lessons}
use Rattle.ll_program.specs.declared.learn.Lessons.TheVariants.{Checks, History}

-- the given name, or else `learned`
abbrev pub name_told : LearnOrder → Text
name_told order = unwrap_or order.name (codes "learned")

-- the profile's name, if it is valid
abbrev pub profile_name : LearnOrder → Option Text
profile_name order = if is_name (name_told order) then Some (name_told order) else None

-- the most rules of the profile
abbrev pub most_rules : LearnOrder → ℕ
most_rules order = unwrap_or order.most 256

-- The rights that no rule may have: those that the word spells, or none without a word. None if the word spells no
-- rights
abbrev pub IsWithheld : Option Text → Option Access → Type 0
IsWithheld None rights = IfSome rights (λ none. none.0 ≡ 0) × IfNone rights ⊥
IsWithheld (Some word) rights =
    IfSome rights (λ set. word ≡ access_text set.0)
    × IfNone rights ((set : ℕ) → set < 2 ^ 64 → word ≢ access_text set)

-- the words give no valid name of a profile, no rights, or no path
abbrev pub HasWrongWord : LearnOrder → Type 0
HasWrongWord order = (profile_name order ≡ None) ⊎ IsWithheld order.never None ⊎ HasBadWord order.beneath

-- what `learn` learns from: files of checks, with a policy's nodes, or a history, for one of its clients
pub data Lesson : Type 0 where
  of_checks : (policy : Text) → Lesson
  of_history : (history : Text) → Option ℕ → Lesson

abbrev pub lessons_of : Lessons → Lesson
lessons_of (Checks policy) = of_checks policy.now
lessons_of (History history client) = of_history history.now client

abbrev pub lessons_in : List Text → (policy history : Option Text) → Option ℕ → Option Lesson
lessons_in (first ∷ others) (Some policy) None None = Some (of_checks policy)
lessons_in [] None (Some name) client = Some (of_history name client)
lessons_in told policy kept client = None

abbrev pub lessons_by : LearnOrder → Option Lesson
lessons_by o = lessons_in o.files o.policy o.history o.client

abbrev pub fits_learn : LearnOrder → Bool
fits_learn o = is_some (lessons_by o)
