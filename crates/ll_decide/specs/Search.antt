-- The search for the least denial, for the code's helpers: no public contract cites this file.
use Rattle.std.specs.Prelude.{ℕ, Bool, List, [], ◌∷◌, ◌++◌, length, Option, slice_get}
use Rattle.std.specs.List.{flat_map, range_with_len}
use Rattle.ll_rights.specs.Access.{holds}
use Rattle.ll_rights.specs.Right.{refer, all_rights}
use Rattle.ll_decide.specs.declared.demands.Demands.{Demands}
use Rattle.ll_decide.specs.declared.denial.Cause.{Cause}
use Rattle.ll_decide.specs.declared.denial.Cause.TheVariants.{EACCES, EXDEV}
use Rattle.ll_decide.specs.declared.denial.Denial.{Denial}
use Rattle.ll_decide.specs.declared.denial.Place.{Place}
use Rattle.ll_decide.specs.declared.denial.Place.TheVariants.{At, Old, New}
use Rattle.ll_decide.specs.declared.judge.Denied.{Denied}
use Rattle.ll_decide.specs.declared.judge.Granted.{Granted}
use Rattle.ll_decide.specs.declared.judge.Reason.{Reason}
use Rattle.ll_decide.specs.declared.judge.Reason.TheVariants.{Lacks, Gains}
use Rattle.ll_decide.specs.Demands.{lacking, gaining}
use Rattle.ll_decide.specs.Judge.{grants_by}
use Rattle.ll_decide.specs.Verdict.{when, places, rights_without_refer, denials}

-- one layer's denial of one right at one place, if any. Layers are numbered from 1
abbrev pub of_place : Cause → ℕ → (ℕ → Place → Bool) → ℕ → Place → List Denial
of_place cause layer test right place =
    when (test right place) (record { cause = cause; layer = layer; right = right; place = place } ∷ [])

abbrev pub of_right : Cause → ℕ → (ℕ → Place → Bool) → ℕ → List Denial
of_right cause layer test right = flat_map (of_place cause layer test right) places

abbrev pub of_layer : Cause → ℕ → (ℕ → Place → Bool) → List ℕ → List Denial
of_layer cause layer test rights = flat_map (of_right cause layer test) rights

abbrev pub is_in : Denied → ℕ → Place → Bool
is_in d right At = holds d.at.0 right
is_in d right Old = holds d.old.0 right
is_in d right New = holds d.new.0 right

abbrev pub fails : Granted → Demands → Reason → ℕ → ℕ → Place → Bool
fails g d Lacks layer right place = lacking (grants_by g layer) d right place
fails g d Gains layer right place = gaining (grants_by g layer) d right place

-- the numbers of the layers, from 0
abbrev pub layers_of : Granted → List ℕ
layers_of g = range_with_len 0 (length g.itself.now)

abbrev pub of_all : Granted → Demands → Reason → Cause → List ℕ → List Denial
of_all g d reason cause rights = denials cause (layers_of g) rights places (fails g d reason)

abbrev pub by_masks : Granted → Demands → Option Denial
by_masks g d =
    slice_get (of_all g d Lacks EACCES rights_without_refer ++ of_all g d Lacks EXDEV (refer ∷ [])
    ++ of_all g d Gains EXDEV all_rights) 0
