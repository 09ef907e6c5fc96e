-- The search for the least change of one layer, for the code's helpers: no public contract cites this file.
use Rattle.std.specs.Prelude.{◌≡◌, ◌≢◌, ℕ, ◌<◌, ◌^◌, Bool, false, not, ◌&&◌, ◌||◌, List, None, ◌==◌, bit_and, find}
use Rattle.std.specs.List.{list_any, range_with_len}
use Rattle.std.specs.Option.{option_map_or}
use Rattle.ll_rights.specs.Access.{holds, known_set}
use Rattle.ll_rules.specs.Layer.{Layer, grants_on}
use Rattle.ll_decide.specs.Demands.{gaining, lacking}
use Rattle.ll_decide.specs.declared.demands.Demands.{Demands}
use Rattle.ll_decide.specs.declared.demands.On.{On}
use Rattle.ll_decide.specs.declared.demands.On.TheVariants.{Itself, Other, Parent, Left, Entered}
use Rattle.ll_decide.specs.declared.denial.Place.TheVariants.{At, Old, New}
use Rattle.ll_seq.specs.State.{State, kind_of}
use Rattle.ll_why.specs.Changes.{IsChange, end_of, rule_on}
use Rattle.ll_why.specs.Reasons.{chain_of}
use Rattle.ll_why.specs.Rights.{meant}
use Rattle.ll_why.specs.declared.asks.Asks.{Asks}
use Rattle.ll_why.specs.declared.change.LayerChange.{LayerChange}
use Rattle.ll_why.specs.declared.places.Places.{Places}
use Rattle.ll_why.specs.declared.places.Sets.{Sets}
use Rattle.ll_why.specs.declared.places.Ways.{Ways}

-- a number below 16 is a set of places, by its bits
abbrev pub bit_on : On → ℕ
bit_on Itself = 0
bit_on Other = 1
bit_on Parent = 3
bit_on Left = 3
bit_on Entered = 2

abbrev pub is_among : Places → On → Bool
is_among places Itself = places.itself
is_among places Other = places.other
is_among places Parent = places.parent
is_among places Left = places.parent
is_among places Entered = places.entered

abbrev pub set_in : Sets → On → ℕ
set_in sets Itself = sets.itself.0
set_in sets Other = sets.other.0
set_in sets Parent = sets.parent.0
set_in sets Left = sets.parent.0
set_in sets Entered = sets.entered.0

-- a layer that grants this denies the right somewhere
abbrev pub denies : (On → ℕ → Bool) → Demands → ℕ → Bool
denies granted d right =
    lacking granted d right At || lacking granted d right Old || lacking granted d right New
    || gaining granted d right Old || gaining granted d right New

-- the last inode of the one's path is on the other's path
abbrev pub leads : Asks → On → On → Bool
leads asks from on = list_any (λ inode. inode == end_of (chain_of asks from)) (chain_of asks on)

-- a rule at one of these places is on the path
abbrev pub is_reached : Asks → (On → Bool) → On → Bool
is_reached asks chosen on =
    chosen Itself && leads asks Itself on || chosen Other && leads asks Other on
    || chosen Entered && leads asks Entered on || chosen Parent && leads asks Parent on

-- what the layer grants after every right was added at these places
abbrev pub granted_with : Asks → Layer → (On → Bool) → On → ℕ → Bool
granted_with asks layer chosen on right = grants_on layer (chain_of asks on) right || is_reached asks chosen on

abbrev pub chosen_by : ℕ → On → Bool
chosen_by number on = holds number (bit_on on)

-- the layer doesn't deny the right after it was added at the places of this number
abbrev pub passes : Asks → Layer → ℕ → ℕ → Bool
passes asks layer right number = not (denies (granted_with asks layer (chosen_by number)) asks.demands right)

-- the rights that a rule here may have: those that the level knows and that apply to the node
abbrev pub may_hold : ℕ → State → Asks → On → ℕ
may_hold level s asks on = bit_and (known_set level) (meant (kind_of s (end_of (chain_of asks on))))

-- the right is in the set of each chosen place
abbrev pub fits : (On → ℕ) → (On → Bool) → ℕ → Bool
fits sets chosen right =
    (((holds (sets Itself) right || not (chosen Itself)) && (holds (sets Other) right || not (chosen Other)))
    && (holds (sets Entered) right || not (chosen Entered))) && (holds (sets Parent) right || not (chosen Parent))

-- and rules may have it there
abbrev pub serves : ℕ → State → Asks → Layer → ℕ → ℕ → Bool
serves level s asks layer right number =
    passes asks layer right number && fits (may_hold level s asks) (chosen_by number) right

-- the place is in the least of these numbers that passes
abbrev pub is_chosen : List ℕ → (ℕ → Bool) → On → Bool
is_chosen numbers test on = option_map_or (λ number. chosen_by number on) (find test numbers) false

abbrev pub numbers : List ℕ
numbers = range_with_len 0 16

-- some right can't be added so that the layer doesn't deny it
abbrev pub IsBarred : ℕ → State → Asks → Layer → Type 0
IsBarred level s asks layer =
    (right : ℕ) × ((right < 15) × (find (serves level s asks layer right) numbers ≡ None))

-- each right can be, and is added at the narrowest places
pub record AreLeastSets (level : ℕ) (s : State) (asks : Asks) (layer : Layer) (sets : On → ℕ) : Type 0 where
  pub known : (on : On) → sets on < 2 ^ 15
  pub found : (right : ℕ) → right < 15 → find (serves level s asks layer right) numbers ≢ None
  pub chosen : (on : On) (right : ℕ) → right < 15
      → holds (sets on) right ≡ is_chosen numbers (serves level s asks layer right) on

-- the change adds each right this way
pub record IsLeastOf (level : ℕ) (s : State) (asks : Asks) (layer : Layer) (change : LayerChange) : Type 0 where
  pub is : IsChange level s asks layer change
  pub least : AreLeastSets level s asks layer (λ on. (rule_on change on).rights.0)

-- for each place, which of the call's places are on its path
pub record AreWays (asks : Asks) (ways : Ways) : Type 0 where
  pub itself : (from : On) → is_among ways.itself from ≡ leads asks from Itself
  pub other : (from : On) → is_among ways.other from ≡ leads asks from Other
  pub entered : (from : On) → is_among ways.entered from ≡ leads asks from Entered
  pub parent : (from : On) → is_among ways.parent from ≡ leads asks from Parent
