-- What a domain denies: every layer has to grant every right that is needed. landlock.rst, "Layers of file path access
-- rights". Layers and paths may be of any types: `grants` says what a layer grants on a path
use Rattle.std.specs.Prelude.{ℕ, Bool, true, false, not, ◌&&◌, List, [], ◌∷◌, ◌++◌, Option, ◌==◌, slice_get, filter}
use Rattle.std.specs.Prelude.{if◌then◌else◌}
use Rattle.std.specs.List.{list_any, flat_map, enumerate_from}
use Rattle.ll_rights.specs.Right.{refer, all_rights}
use Rattle.ll_rights.specs.Access.{holds}
use Rattle.ll_decide.specs.declared.denial.Cause.{Cause}
use Rattle.ll_decide.specs.declared.denial.Cause.TheVariants.{EACCES, EXDEV}
use Rattle.ll_decide.specs.declared.denial.Place.{Place}
use Rattle.ll_decide.specs.declared.denial.Place.TheVariants.{At, Old, New}
use Rattle.ll_decide.specs.declared.denial.Denial.{Denial}

pub record Ask (P : Type 0) : Type 0 where
  pub path : P
  pub right : ℕ
  pub place : Place

-- a node that gets a name in another directory. relevant: the rights that apply to it
pub record Move (P : Type 0) : Type 0 where
  pub from : P
  pub into : P
  pub relevant : ℕ
  pub place : Place

abbrev pub when : {A : Type 0} → Bool → List A → List A
when test xs = if test then xs else []

abbrev pub is_at : Place → Place → Bool
is_at At At = true
is_at Old Old = true
is_at New New = true
is_at _ _ = false

abbrev pub places : List Place
places = At ∷ Old ∷ New ∷ []

abbrev pub rights_without_refer : List ℕ
rights_without_refer = filter (λ right. not (right == refer)) all_rights

-- the denials that the test finds, sorted by layer (numbered from 1), then right, then place
abbrev pub denials : {A : Type 0} → Cause → List A → List ℕ → List Place → (A → ℕ → Place → Bool) → List Denial
denials {A} cause layers rights places test =
    flat_map (λ (l : ℕ × A). flat_map (λ right. flat_map (λ place.
    when (test l.1 right place) (record { cause = cause; layer = l.0; right = right; place = place } ∷ []))
    places) rights) (enumerate_from 1 layers)

module _ {A P : Type 0} (grants : A → P → ℕ → Bool) where
  -- the layer doesn't grant a right that is needed, at this place
  abbrev pub lacks : List (Ask P) → A → ℕ → Place → Bool
  lacks asks layer right place = list_any (λ (a : Ask P).
      (a.right == right) && is_at a.place place && not (grants layer a.path right)) asks

  -- the new directory would give a node a right that its old path doesn't. linux/landlock.h, LANDLOCK_ACCESS_FS_REFER
  abbrev pub gains : List (Move P) → A → ℕ → Place → Bool
  gains moves layer right place = list_any (λ (m : Move P).
      is_at m.place place && holds m.relevant right
      && grants layer m.into right && not (grants layer m.from right)) moves

  -- All denials in the order of report: missing rights, then a missing refer, then rights gained. The first is reported
  abbrev pub all_denials : List A → List (Ask P) → List (Move P) → List Denial
  all_denials layers asks moves =
      denials EACCES layers rights_without_refer places (lacks asks)
      ++ denials EXDEV layers (refer ∷ []) places (lacks asks)
      ++ denials EXDEV layers all_rights places (gains moves)

  abbrev pub verdict : List A → List (Ask P) → List (Move P) → Option Denial
  verdict layers asks moves = slice_get (all_denials layers asks moves) 0
