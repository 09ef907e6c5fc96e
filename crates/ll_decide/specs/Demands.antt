-- What a call needs of each layer, as sets of rights instead of lists. Cited by contracts between crates alone. own
use Rattle.std.specs.Prelude.{◌≡◌, ℕ, ◌<◌, Bool, false, not, ◌&&◌, ◌||◌, List}
use Rattle.ll_rights.specs.Access.{holds}
use Rattle.ll_decide.specs.declared.demands.Demands.{Demands}
use Rattle.ll_decide.specs.declared.demands.On.{On}
use Rattle.ll_decide.specs.declared.demands.On.TheVariants.{Itself, Other, Parent, Left, Entered}
use Rattle.ll_decide.specs.declared.demands.Way.{Way}
use Rattle.ll_decide.specs.declared.demands.Way.TheVariants.{There, Back}
use Rattle.ll_decide.specs.declared.denial.Place.{Place}
use Rattle.ll_decide.specs.declared.denial.Place.TheVariants.{At, Old, New}
use Rattle.ll_decide.specs.Verdict.{Ask, Move, lacks, gains}

-- the place that a denial names for a right needed on this
abbrev pub place_on : On → Place
place_on Itself = At
place_on Parent = At
place_on Left = Old
place_on Other = New
place_on Entered = New

abbrev pub ask_on : On → ℕ → Ask On
ask_on on right = record { path = on; right = right; place = place_on on }

-- There: the first path's node moves into the second path's directory. Back: the second's node into the first's
abbrev pub move_on : Way → ℕ → Move On
move_on There relevant = record { from = Itself; into = Entered; relevant = relevant; place = New }
move_on Back relevant = record { from = Other; into = Left; relevant = relevant; place = Old }

abbrev pub set_on : Demands → On → ℕ
set_on d Itself = d.itself.0
set_on d Other = d.other.0
set_on d Parent = d.parent.0
set_on d Left = d.left.0
set_on d Entered = d.entered.0

abbrev pub set_of : Demands → Way → ℕ
set_of d There = d.there.0
set_of d Back = d.back.0

-- here a layer is given by the rights that it grants on each `On`
abbrev pub of_itself : (On → ℕ → Bool) → On → ℕ → Bool
of_itself granted on right = granted on right

-- the right is needed on this, and the layer doesn't grant it there
abbrev pub misses : (On → ℕ → Bool) → Demands → ℕ → On → Bool
misses granted d right on = holds (set_on d on) right && not (granted on right)

-- the layer lacks this right of the sets, at the place that a denial names
abbrev pub lacking : (On → ℕ → Bool) → Demands → ℕ → Place → Bool
lacking granted d right At = misses granted d right Itself || misses granted d right Parent
lacking granted d right Old = misses granted d right Left
lacking granted d right New = misses granted d right Other || misses granted d right Entered

-- a moved node would gain this right in the layer, by the sets
abbrev pub gaining : (On → ℕ → Bool) → Demands → ℕ → Place → Bool
gaining granted d right At = false
gaining granted d right Old = holds (set_of d Back) right && granted Left right && not (granted Other right)
gaining granted d right New = holds (set_of d There) right && granted Entered right && not (granted Itself right)

-- whatever a layer grants, it lacks the same rights of the list as of the sets
abbrev pub AreAsks : Demands → List (Ask On) → Type 0
AreAsks d asks =
    (granted : On → ℕ → Bool) (right : ℕ) (place : Place) → right < 15 →
    lacks of_itself asks granted right place ≡ lacking granted d right place

-- whatever a layer grants, moved nodes gain the same rights by the list as by the sets
abbrev pub AreMoves : Demands → List (Move On) → Type 0
AreMoves d moves =
    (granted : On → ℕ → Bool) (right : ℕ) (place : Place) → right < 15 →
    gains of_itself moves granted right place ≡ gaining granted d right place
